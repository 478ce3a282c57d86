-- The recursion of the readings, opened: in an image whose records fit, a node is read from the readings of the nodes that it refers to.
use Prim.Native.Nat.{ℕ, zero, suc, ◌+◌, ◌-◌, ◌≤◌, ◌<◌}
use Rattle.std.specs.Prelude.{◌≡◌, ◌∷◌, Bool, true, ◌⊎◌, eqb, leb, length, drop}
use Rattle.std.proofs.Math.Path.{refl, ap}
use Rattle.std.proofs.Common.{◌∙◌, ⊎_elim, add-zero}
use native.Mathlib.Omega.{arith}
use borrow.Author.Tests.{leb-true, eqb-true}
use Rattle.std.proofs.Math.ListN.{get_or, get_or-eq_default}
use Rattle.std.proofs.Math.Seq.{get_or-drop}
use Rattle.std.proofs.lemmas.Bool.{and_parts}
use Rattle.rules.specs.Image.{missing, Header, Parts, Node, node_of, is_statement, is_expression, is_lvalue}
use Rattle.rules.specs.Form.{class_of, fields}
use Rattle.rules.specs.Tree.{is_reference, list, Reading, no_reading, expr_of, lvalue_of, stmt_of, reading_of, readings, reading_at}
use Rattle.records.specs.Fits.{Fits, Child, reference-behind, next_statement_lem, next_lvalue_lem}
use Rattle.records.specs.Truth.{same-choice, past, last, every, at_every}

-- Two ways to read the nodes behind n that agree read a record that fits alike.
module _ (h : Header) (s : Parts) (n : ℕ) (r : Node) (small : n < missing) (f : Fits h s.nodes n r)
    (at at' : ℕ → Reading) (agree : (m : ℕ) → n < m → at m ≡ at' m) where
  same-a : is_reference (class_of r.kind 1) ≡ true → at r.a ≡ at' r.a
  same-a i = agree r.a (reference-behind h s.nodes n small r.b _ r.a i f.field_a)

  same-b : is_reference (class_of r.kind 2) ≡ true → at r.b ≡ at' r.b
  same-b i = agree r.b (reference-behind h s.nodes n small r.b _ r.b i f.field_b)

  same-c : is_reference (class_of r.kind 3) ≡ true → at r.c ≡ at' r.c
  same-c i = agree r.c (reference-behind h s.nodes n small r.b _ r.c i f.field_c)

  same-d : is_reference (class_of r.kind 4) ≡ true → at r.d ≡ at' r.d
  same-d i = agree r.d (reference-behind h s.nodes n small r.b _ r.d i f.field_d)

  stmt_same : is_statement r.kind ≡ true → stmt_of n r at ≡ stmt_of n r at'
  unfolding stmt_of fields
  stmt_same i =
      let low : 1 ≤ r.kind = leb-true _ _ (and_parts (leb 1 r.kind) _ i).0 in
      let high : r.kind ≤ 9 = leb-true _ _ (and_parts (leb 1 r.kind) _ i).1 in
      same-choice (eqb r.kind 1) (λ e. refl)
      (λ n₁. same-choice (eqb r.kind 2) (λ e. let k = eqb-true r.kind 2 e in rw (same-a (rw k), same-b (rw k)))
      (λ n₂. same-choice (eqb r.kind 3) (λ e. let k = eqb-true r.kind 3 e in rw (same-a (rw k), same-b (rw k)))
      (λ n₃. same-choice (eqb r.kind 4) (λ e. let k = eqb-true r.kind 4 e in rw (same-a (rw k), same-b (rw k), same-c (rw k)))
      (λ n₄. same-choice (eqb r.kind 5) (λ e. let k = eqb-true r.kind 5 e in rw (same-a (rw k), same-b (rw k), same-c (rw k)))
      (λ n₅. same-choice (eqb r.kind 6) (λ e. let k = eqb-true r.kind 6 e in rw (same-b (rw k), same-c (rw k), same-d (rw k)))
      (λ n₆. same-choice (eqb r.kind 7) (λ e. let k = eqb-true r.kind 7 e in rw (same-b (rw k)))
      (λ n₇. same-choice (eqb r.kind 8) (λ e. let k = eqb-true r.kind 8 e in rw (same-b (rw k)))
      (λ n₈.
      let k : r.kind ≡ 9 = last 8 r.kind (past 7 _ (past 6 _ (past 5 _ (past 4 _ (past 3 _ (past 2 _ (past 1 _ low n₁) n₂) n₃) n₄) n₅) n₆) n₇) n₈ high in
      rw (same-c (rw k))))))))))

  expr_same : is_expression r.kind ≡ true → expr_of s n r at ≡ expr_of s n r at'
  unfolding expr_of fields
  expr_same i =
      let low : 20 ≤ r.kind = leb-true _ _ (and_parts (leb 20 r.kind) _ i).0 in
      let high : r.kind ≤ 26 = leb-true _ _ (and_parts (leb 20 r.kind) _ i).1 in
      same-choice (eqb r.kind 20) (λ e. refl)
      (λ n₁. same-choice (eqb r.kind 21) (λ e. refl)
      (λ n₂. same-choice (eqb r.kind 22) (λ e. let k = eqb-true r.kind 22 e in rw (same-b (rw k)))
      (λ n₃. same-choice (eqb r.kind 23) (λ e. let k = eqb-true r.kind 23 e in rw (same-b (rw k)))
      (λ n₄. same-choice (eqb r.kind 24) (λ e. refl)
      (λ n₅. same-choice (eqb r.kind 25) (λ e. let k = eqb-true r.kind 25 e in rw (same-a (rw k), same-b (rw k)))
      (λ n₆.
      let k : r.kind ≡ 26 = last 25 r.kind (past 24 _ (past 23 _ (past 22 _ (past 21 _ (past 20 _ low n₁) n₂) n₃) n₄) n₅) n₆ high in
      rw (same-a (rw k))))))))

  lvalue-same : is_lvalue r.kind ≡ true → lvalue_of n r at ≡ lvalue_of n r at'
  unfolding lvalue_of fields every
  lvalue-same i =
      let low : 21 ≤ r.kind = leb-true _ _ (and_parts (leb 21 r.kind) _ i).0 in
      let high : r.kind ≤ 23 = leb-true _ _ (and_parts (leb 21 r.kind) _ i).1 in
      same-choice (eqb r.kind 21) (λ e. refl)
      (λ n₁.
      let l : 22 ≤ r.kind = past 21 _ low n₁ in
      rw (same-b (at_every (λ k. is_reference (class_of k 2)) 22 2 r.kind refl l (omega arith))))

readings-length : (s : Parts) (n count : ℕ) → length (readings s n count) ≡ count
unfolding readings
readings-length s n zero = refl
readings-length s n (suc count) = ap suc (readings-length s (suc n) count)

readings-at : (s : Parts) (n count j : ℕ) → j < count
    → get_or (readings s n count) j no_reading
    ≡ reading_of s (n + j) (node_of s.nodes (n + j)) (λ m. get_or (drop (suc j) (readings s n count)) (m - suc (n + j)) no_reading)
unfolding readings
readings-at s n zero j l = absurd (omega arith)
readings-at s n (suc count) zero l = rw (add-zero n) refl
readings-at s n (suc count) (suc j) l = let e : n + suc j ≡ suc n + j = omega arith in rw e (readings-at s (suc n) count j (omega arith))

module _ (h : Header) (s : Parts) where
  -- What stands behind node n, as its reading sees it.
  abbrev behind_of : ℕ → ℕ → Reading
  behind_of n m = get_or (drop (suc n) (readings s 0 h.nodes)) (m - suc n) no_reading

  pub reading-rule : (n : ℕ) → n < h.nodes → reading_at h s n ≡ reading_of s n (node_of s.nodes n) (behind_of n)
  unfolding reading_at
  reading-rule n l = let e : 0 + n ≡ n = omega arith in rw e at (readings-at s 0 h.nodes n l)

  pub later : (n m : ℕ) → n < m → behind_of n m ≡ reading_at h s m
  unfolding reading_at
  later n m l =
      let e : suc n + (m - suc n) ≡ m = omega arith in
      get_or-drop (suc n) (readings s 0 h.nodes) (m - suc n) no_reading ∙ ap (λ x. get_or (readings s 0 h.nodes) x no_reading) e

  -- "A missing reference has no reading."
  pub reading-missing : h.nodes ≤ missing → reading_at h s missing ≡ no_reading
  unfolding reading_at
  reading-missing few = get_or-eq_default (readings s 0 h.nodes) no_reading (rw (readings-length s 0 h.nodes) few)

-- The rules to prove code by, for a node below the count whose record fits: it is read from the readings of what it refers to.
module _ (h : Header) (s : Parts) (few : h.nodes ≤ missing) (n : ℕ) (inside : n < h.nodes) (f : Fits h s.nodes n (node_of s.nodes n)) where
  pub stmt_reading : is_statement (node_of s.nodes n).kind ≡ true → (reading_at h s n).as_stmt ≡ stmt_of n (node_of s.nodes n) (reading_at h s)
  unfolding reading_of
  stmt_reading i =
      ap (λ (x : Reading). x.as_stmt) (reading-rule h s n inside)
      ∙ stmt_same h s n (node_of s.nodes n) (omega arith) f (behind_of h s n) (reading_at h s) (later h s n) i

  pub expr_reading : is_expression (node_of s.nodes n).kind ≡ true → (reading_at h s n).as_expr ≡ expr_of s n (node_of s.nodes n) (reading_at h s)
  unfolding reading_of
  expr_reading i =
      ap (λ (x : Reading). x.as_expr) (reading-rule h s n inside)
      ∙ expr_same h s n (node_of s.nodes n) (omega arith) f (behind_of h s n) (reading_at h s) (later h s n) i

  pub lvalue-reading : is_lvalue (node_of s.nodes n).kind ≡ true → (reading_at h s n).as_lvalue ≡ lvalue_of n (node_of s.nodes n) (reading_at h s)
  unfolding reading_of
  lvalue-reading i =
      ap (λ (x : Reading). x.as_lvalue) (reading-rule h s n inside)
      ∙ lvalue-same h s n (node_of s.nodes n) (omega arith) f (behind_of h s n) (reading_at h s) (later h s n) i

  next-behind : (class : ℕ → Bool) → ((node_of s.nodes n).next ≡ missing) ⊎ Child h s.nodes n class (node_of s.nodes n).next → n < (node_of s.nodes n).next
  next-behind class = ⊎_elim (λ e. omega arith) (λ x. x.behind)

  pub stmts_reading : is_statement (node_of s.nodes n).kind ≡ true
      → (reading_at h s n).as_stmts ≡ list (reading_at h s n).as_stmt (reading_at h s (node_of s.nodes n).next).as_stmts
  unfolding reading_of
  stmts_reading i =
      let e = reading-rule h s n inside in
      let l : n < (node_of s.nodes n).next = next-behind is_statement (next_statement_lem h s.nodes n (node_of s.nodes n) f i) in
      rw e (rw (later h s n (node_of s.nodes n).next l))

  pub arguments-reading : is_lvalue (node_of s.nodes n).kind ≡ true
      → (reading_at h s n).as_arguments ≡ (reading_at h s n).as_lvalue ∷ (reading_at h s (node_of s.nodes n).next).as_arguments
  unfolding reading_of
  arguments-reading i =
      let e = reading-rule h s n inside in
      let l : n < (node_of s.nodes n).next = next-behind is_lvalue (next_lvalue_lem h s.nodes n (node_of s.nodes n) f i) in
      rw e (rw (later h s n (node_of s.nodes n).next l))
