-- No expression of an accepted image names more variables than there are nodes, so no statement reads many cells by itself.
-- What a node is read as comes from what it refers to; each expression's variables are a weight on the forest.
use Prim.Native.Nat.{ℕ, zero, suc, ◌+◌, ◌-◌, ◌*◌, ◌≤◌, ◌<◌}
use Rattle.std.specs.Prelude.{◌≡◌, refl, Bool, cond, ◌||◌, drop, T, eqb, leb}
use Rattle.std.proofs.Common.{◌∙◌, ⊎_elim, add-zero, eqb→eq, ltb→lt, le→leb, T_not}
use Rattle.std.proofs.Math.Path.{ap}
use Rattle.std.proofs.Math.Logic.{dite}
use native.Mathlib.Omega.{arith}
use Rattle.std.proofs.Math.Decide.{dec_lt}
use Rattle.std.proofs.Math.ListN.{length, get_or, length-append, get_or-eq_default}
use Rattle.std.proofs.Math.Seq.{get_or-drop}
use Rattle.std.proofs.Math.Dec.{leb→le}
use Rattle.rules.specs.Image.{missing, Header, Parts, is_constant, Node, node_of, procedure_of, is_statement, is_expression, is_lvalue}
use Rattle.rules.specs.Form.{expression, next_statement, next_lvalue, fields, class_of, refers, field_fits, record_fits}
use Rattle.rules.specs.Tree.{references_of, node_references, occurrences, Expr, Stmt, empty, update, swap, conditional_swap, branch, loop, call, block, nothing, list, Reading, no_reading, expr_of, lvalue_of, stmt_of, reading_of, readings, reading_at, range, body_of, variables, index, indices}
use Rattle.rules.specs.Walk.{type_of, every}
use Rattle.laws.specs.Verdicts.{is_true, either, and_iff, or_cases, equal_test, every-each, inside-range}
use Rattle.laws.specs.EntriesForest.{total, starting_at, weight_bounded}

-- ---- what a node is read as

readings-length : (s : Parts) (n count : ℕ) → length (readings s n count) ≡ count
unfolding readings
readings-length s n zero = refl
readings-length s n (suc count) = ap suc (readings-length s (suc n) count)

readings-at : (s : Parts) (n count j : ℕ) → j < count
    → get_or (readings s n count) j no_reading
    ≡ reading_of s (n + j) (node_of s.nodes (n + j)) (λ m. get_or (drop (suc j) (readings s n count)) (m - suc (n + j)) no_reading)
unfolding readings
readings-at s n zero j l = absurd (omega arith)
readings-at s n (suc count) zero l = rw (add-zero n) refl
readings-at s n (suc count) (suc j) l = let e : n + suc j ≡ suc n + j = omega arith in rw e (readings-at s (suc n) count j (omega arith))

module _ (h : Header) (s : Parts) where
  -- What stands behind node n, as its reading sees it.
  abbrev behind_of : ℕ → ℕ → Reading
  behind_of n m = get_or (drop (suc n) (readings s 0 h.nodes)) (m - suc n) no_reading

  reading-rule : (n : ℕ) → n < h.nodes → reading_at h s n ≡ reading_of s n (node_of s.nodes n) (behind_of n)
  unfolding reading_at
  reading-rule n l = let e : 0 + n ≡ n = omega arith in rw e at (readings-at s 0 h.nodes n l)

  later : (n m : ℕ) → n < m → behind_of n m ≡ reading_at h s m
  unfolding reading_at
  later n m l =
      let e : suc n + (m - suc n) ≡ m = omega arith in
      get_or-drop (suc n) (readings s 0 h.nodes) (m - suc n) no_reading ∙ ap (λ x. get_or (readings s 0 h.nodes) x no_reading) e

  reading-outside : (n : ℕ) → h.nodes ≤ n → reading_at h s n ≡ no_reading
  unfolding reading_at
  reading-outside n l = get_or-eq_default (readings s 0 h.nodes) no_reading (rw (readings-length s 0 h.nodes) l)

-- ---- what a node refers to

-- Node n, if there is one, is of the class; a missing reference is to no node.
abbrev OfClass : Header → Parts → (ℕ → Bool) → ℕ → Type 0
OfClass h s class n = n < h.nodes → T (class (node_of s.nodes n).kind)

-- A reference of node n: "to a larger node number", and to its class.
record Child (h : Header) (s : Parts) (n : ℕ) (class : ℕ → Bool) (m : ℕ) : Type 0 where
  behind : n < m
  classed : OfClass h s class m

-- The fields of a record that fits, one by one.
record FieldsFit (h : Header) (s : Parts) (n : ℕ) (r : Node) : Type 0 where
  a : T (field_fits h s.nodes n r.b (class_of r.kind 1) r.a)
  b : T (field_fits h s.nodes n r.b (class_of r.kind 2) r.b)
  c : T (field_fits h s.nodes n r.b (class_of r.kind 3) r.c)
  d : T (field_fits h s.nodes n r.b (class_of r.kind 4) r.d)
  next : T (field_fits h s.nodes n r.b (class_of r.kind 5) r.next)

fields_fit : (h : Header) (s : Parts) (n : ℕ) (r : Node) → T (record_fits h s.nodes n r) → FieldsFit h s n r
unfolding record_fits
fields_fit h s n r t = let f = simp and_iff at t in record { a = f.1.1.0; b = f.1.1.1.0; c = f.1.1.1.1.0; d = f.1.1.1.1.1.0; next = f.1.1.1.1.1.1 }

child : (h : Header) (s : Parts) (n : ℕ) (class : ℕ → Bool) (v : ℕ) → T (refers h s.nodes n class v) → Child h s n class v
unfolding refers
child h s n class v t = let a = simp and_iff at t in record { behind = ltb→lt n v a.0; classed = λ l. a.1.1 }

child_or_missing : (h : Header) (s : Parts) → h.nodes ≤ 4096 → (n : ℕ) → n < h.nodes → (class : ℕ → Bool) (v : ℕ)
    → T (eqb v missing || refers h s.nodes n class v) → Child h s n class v
child_or_missing h s few n i class v t = ⊎_elim (λ m. let e = eqb→eq v missing m in record { behind = omega arith; classed = λ l. absurd (omega arith) })
    (λ r. child h s n class v r) (or_cases (eqb v missing) (refers h s.nodes n class v) t)

-- Where a field is of one class for the count kinds from k on, it is for each of them.
one_class : (field class k count kind : ℕ) → T (every (λ i. eqb (class_of i field) class) (range k count)) → k ≤ kind → kind < k + count → class_of kind field ≡ class
one_class field class k count kind t low high =
    eqb→eq (class_of kind field) class (every-each (λ i. eqb (class_of i field) class) (range k count) t kind (inside-range k count kind low high))

module _ (h : Header) (s : Parts) (few : h.nodes ≤ 4096) (n : ℕ) (inside : n < h.nodes) (r : Node) (F : FieldsFit h s n r) where
  -- "Only statements and L-values use next, each for its own class."
  next_lvalue_lem : T (is_lvalue r.kind) → Child h s n is_lvalue r.next
  unfolding field_fits fields every range
  next_lvalue_lem t =
      let bounds = simp and_iff at t in
      let high = leb→le r.kind 23 bounds.1 in
      child_or_missing h s few n inside is_lvalue r.next (rw (one_class 5 next_lvalue 21 3 r.kind tt (leb→le 21 r.kind bounds.0) (omega arith)) at F.next)

  next_statement_lem : T (is_statement r.kind) → Child h s n is_statement r.next
  unfolding field_fits fields every range
  next_statement_lem t =
      let bounds = simp and_iff at t in
      let high = leb→le r.kind 9 bounds.1 in
      child_or_missing h s few n inside is_statement r.next (rw (one_class 5 next_statement 1 9 r.kind tt (leb→le 1 r.kind bounds.0) (omega arith)) at F.next)

-- A choice by kind: the lower ones are done.
by_kind : {A : Type 0} (P : A → Type 0) (kind k : ℕ) (x y : A) → k ≤ kind → (kind ≡ k → P x) → (suc k ≤ kind → P y) → P (cond (eqb kind k) x y)
by_kind P kind k x y l here rest = either P (eqb kind k) x y (λ t. here (eqb→eq kind k t))
    (λ t. rest (let ne : kind ≡ k → ⊥ = λ e. T_not (eqb kind k) t (equal_test kind k e) in omega arith))

-- ---- expressions

-- An expression names at most one variable more than the expressions it refers to.
module _ (h : Header) (s : Parts) (n : ℕ) (r : Node) (F : FieldsFit h s n r) (at : ℕ → Reading) (w : ℕ → ℕ)
    (weighed : (v : ℕ) → Child h s n is_expression v → length (variables (at v).as_expr) ≤ w v) where
  abbrev Light : Expr → Type 0
  Light e = length (variables e) ≤ 1 + total w (references_of r)

  operand : (v : ℕ) → T (refers h s.nodes n is_expression v) → length (variables (at v).as_expr) ≤ w v
  operand v t = weighed v (child h s n is_expression v t)

  expr_grows : T (is_expression r.kind) → Light (expr_of s n r at)
  unfolding expr_of variables references_of total field_fits fields
  expr_grows t =
      let bounds = simp and_iff at t in
      let high = leb→le r.kind 26 bounds.1 in
      by_kind Light r.kind 20 _ _ (leb→le 20 r.kind bounds.0) (λ k. omega arith) (λ l.
      by_kind Light r.kind 21 _ _ l (λ k. either Light (is_constant (type_of s r.a)) _ _ (λ c. omega arith) (λ c. omega arith)) (λ l.
      by_kind Light r.kind 22 _ _ l (λ k. let x = operand r.b (rw k at F.b) in rw k (omega arith)) (λ l.
      by_kind Light r.kind 23 _ _ l (λ k. let x = operand r.b (rw k at F.b) in rw k (omega arith)) (λ l.
      by_kind Light r.kind 24 _ _ l (λ k. omega arith) (λ l.
      by_kind Light r.kind 25 _ _ l
      (λ k. let x = operand r.a (rw k at F.a) in
      let y = operand r.b (rw k at F.b) in
      let z = length-append (variables (at r.a).as_expr) (variables (at r.b).as_expr) in
      rw k (omega arith)) (λ l.
      let k : r.kind ≡ 26 = omega arith in
      let x = operand r.a (rw k at F.a) in
      rw k (omega arith)))))))

-- How many variables the expression at a node names.
unfoldable reads : Header → Parts → ℕ → ℕ
reads h s n = cond (is_expression (node_of s.nodes n).kind) (length (variables (reading_at h s n).as_expr)) 0

-- What is known of the nodes of an accepted image.
pub record Forest (h : Header) (s : Parts) : Type 0 where
  pub few : h.nodes ≤ 4096
  pub fits : (n : ℕ) → n < h.nodes → T (record_fits h s.nodes n (node_of s.nodes n))
  pub once : (n : ℕ) → n < h.nodes → occurrences n (node_references s.nodes 0 h.nodes) ≤ 1
  pub body : (p : ℕ) → p < h.procedures → T (is_statement (node_of s.nodes (procedure_of s.procedures p).body).kind)

module _ (h : Header) (s : Parts) (F : Forest h s) where
  fitting : (n : ℕ) → n < h.nodes → FieldsFit h s n (node_of s.nodes n)
  fitting n l = fields_fit h s n (node_of s.nodes n) (F.fits n l)

  reads-outside : (n : ℕ) → h.nodes ≤ n → reads h s n ≡ 0
  unfolding reads variables
  reads-outside n l = rw (reading-outside h s n l) (either (λ k. k ≡ 0) (is_expression (node_of s.nodes n).kind) _ _ (λ _. refl) (λ _. refl))

  reads_here : (n : ℕ) → OfClass h s is_expression n → length (variables (reading_at h s n).as_expr) ≤ reads h s n
  unfolding reads variables
  reads_here n c = dite (dec_lt n h.nodes) (λ l. rw (is_true (is_expression (node_of s.nodes n).kind) (c l)) (omega arith)) (λ l. rw (reading-outside h s n (omega arith)) (omega arith))

  reads-child : (n v : ℕ) → Child h s n is_expression v → length (variables (behind_of h s n v).as_expr) ≤ starting_at (suc n) (reads h s) v
  unfolding starting_at
  reads-child n v c = rw (later h s n v c.behind, is_true (leb (suc n) v) (le→leb (suc n) v c.behind)) (reads_here v c.classed)

  reads-grow : (n : ℕ) → n < h.nodes → reads h s n ≤ 1 + total (starting_at (suc n) (reads h s)) (references_of (node_of s.nodes n))
  unfolding reads reading_of
  reads-grow n l = either (λ k. k ≤ 1 + total (starting_at (suc n) (reads h s)) (references_of (node_of s.nodes n))) (is_expression (node_of s.nodes n).kind) _ _
      (λ t. rw (reading-rule h s n l) (expr_grows h s n (node_of s.nodes n) (fitting n l) (behind_of h s n) (starting_at (suc n) (reads h s)) (reads-child n) t))
      (λ t. omega arith)

  -- So an expression names at most as many variables as there are nodes.
  expr_short : (n : ℕ) → OfClass h s is_expression n → length (variables (reading_at h s n).as_expr) ≤ 4096
  unfolding variables
  expr_short n c = dite (dec_lt n h.nodes)
      (λ l. let a = reads_here n c in
      let b = weight_bounded s.nodes h.nodes F.once (reads h s) reads-outside reads-grow n (h.nodes - suc n) (omega arith) in
      omega (arith, F.few))
      (λ l. rw (reading-outside h s n (omega arith)) (omega arith))

-- ---- statements

-- A chain of 4,096 arguments with 4,096 variables each: more than any statement names.
abbrev pub most_reads : ℕ
most_reads = 4096 * 4096

-- A statement whose own expressions, and those of its parts, name few variables.
unfoldable pub Brief : Stmt → Type 0
Brief (empty n) = Unit {0}
Brief (update n o l e) = length (index l) + length (variables e) ≤ most_reads
Brief (swap n l m) = length (index l) + length (index m) ≤ most_reads
Brief (conditional_swap n e l m) = length (variables e) + (length (index l) + length (index m)) ≤ most_reads
Brief (branch n e t u) = (length (variables e) ≤ most_reads) × Brief t × Brief u
Brief (loop n x a b t) = (length (variables a) + length (variables b) ≤ most_reads) × Brief t
Brief (call n d q ls) = length (indices ls) ≤ most_reads
Brief (block n xs t) = Brief t
Brief nothing = Unit {0}
Brief (list t u) = Brief t × Brief u

-- A statement is brief if what it refers to is short and brief.
module _ (h : Header) (s : Parts) (few : h.nodes ≤ 4096) (n : ℕ) (inside : n < h.nodes) (r : Node) (F : FieldsFit h s n r) (at : ℕ → Reading)
    (exprs : (v : ℕ) → Child h s n is_expression v → length (variables (at v).as_expr) ≤ 4096) where
  expr_at_lem : (v : ℕ) → T (refers h s.nodes n is_expression v) → length (variables (at v).as_expr) ≤ 4096
  expr_at_lem v t = exprs v (child h s n is_expression v t)

  index_short : T (is_lvalue r.kind) → length (index (lvalue_of n r at)) ≤ 4096
  unfolding lvalue_of index field_fits fields every range
  index_short t =
      let bounds = simp and_iff at t in
      let high = leb→le r.kind 23 bounds.1 in
      by_kind (λ l. length (index l) ≤ 4096) r.kind 21 _ _ (leb→le 21 r.kind bounds.0) (λ k. omega arith)
      (λ low. expr_at_lem r.b (rw (one_class 2 expression 22 2 r.kind tt low (omega arith)) at F.b))

  module _ (targets : (v : ℕ) → Child h s n is_lvalue v → length (index (at v).as_lvalue) ≤ 4096)
      (lists : (v : ℕ) → Child h s n is_lvalue v → length (indices (at v).as_arguments) ≤ most_reads)
      (stmts : (v : ℕ) → Child h s n is_statement v → Brief (at v).as_stmt × Brief (at v).as_stmts) (t : T (is_statement r.kind)) where
    target_at : (v : ℕ) → T (refers h s.nodes n is_lvalue v) → length (index (at v).as_lvalue) ≤ 4096
    target_at v t = targets v (child h s n is_lvalue v t)

    arguments_at_lem : (v : ℕ) → T (eqb v missing || refers h s.nodes n is_lvalue v) → length (indices (at v).as_arguments) ≤ most_reads
    arguments_at_lem v t = lists v (child_or_missing h s few n inside is_lvalue v t)

    stmt_at_lem : (v : ℕ) → T (refers h s.nodes n is_statement v) → Brief (at v).as_stmt
    stmt_at_lem v t = (stmts v (child h s n is_statement v t)).0

    stmts_at_lem : (v : ℕ) → T (eqb v missing || refers h s.nodes n is_statement v) → Brief (at v).as_stmts
    stmts_at_lem v t = (stmts v (child_or_missing h s few n inside is_statement v t)).1

    stmt_brief : Brief (stmt_of n r at)
    unfolding stmt_of Brief field_fits fields
    stmt_brief =
        let bounds = simp and_iff at t in
        let high = leb→le r.kind 9 bounds.1 in
        by_kind Brief r.kind 1 _ _ (leb→le 1 r.kind bounds.0) (λ k. tt) (λ l.
        by_kind Brief r.kind 2 _ _ l (λ k. let x = target_at r.a (rw k at F.a) in let y = expr_at_lem r.b (rw k at F.b) in omega arith) (λ l.
        by_kind Brief r.kind 3 _ _ l (λ k. let x = target_at r.a (rw k at F.a) in let y = target_at r.b (rw k at F.b) in omega arith) (λ l.
        by_kind Brief r.kind 4 _ _ l
        (λ k. let x = expr_at_lem r.a (rw k at F.a) in let y = target_at r.b (rw k at F.b) in let z = target_at r.c (rw k at F.c) in omega arith) (λ l.
        by_kind Brief r.kind 5 _ _ l (λ k. (let x = expr_at_lem r.a (rw k at F.a) in omega arith, stmt_at_lem r.b (rw k at F.b), stmt_at_lem r.c (rw k at F.c))) (λ l.
        by_kind Brief r.kind 6 _ _ l
        (λ k. (let x = expr_at_lem r.b (rw k at F.b) in let y = expr_at_lem r.c (rw k at F.c) in omega arith, stmt_at_lem r.d (rw k at F.d))) (λ l.
        by_kind Brief r.kind 7 _ _ l (λ k. arguments_at_lem r.b (rw k at F.b)) (λ l.
        by_kind Brief r.kind 8 _ _ l (λ k. arguments_at_lem r.b (rw k at F.b)) (λ l.
        let k : r.kind ≡ 9 = omega arith in stmts_at_lem r.c (rw k at F.c)))))))))

module _ (h : Header) (s : Parts) (F : Forest h s) where
  expr_behind : (n v : ℕ) → Child h s n is_expression v → length (variables (behind_of h s n v).as_expr) ≤ 4096
  expr_behind n v c = rw (later h s n v c.behind) (expr_short h s F v c.classed)

  lvalue-short : (n : ℕ) → OfClass h s is_lvalue n → length (index (reading_at h s n).as_lvalue) ≤ 4096
  unfolding reading_of index
  lvalue-short n c = dite (dec_lt n h.nodes)
      (λ l. rw (reading-rule h s n l) (index_short h s F.few n l (node_of s.nodes n) (fitting h s F n l) (behind_of h s n) (expr_behind n) (c l)))
      (λ l. rw (reading-outside h s n (omega arith)) (omega arith))

  -- A chain of arguments is no longer than there are nodes.
  arguments-short : (count n : ℕ) → h.nodes ≤ n + count → OfClass h s is_lvalue n → length (indices (reading_at h s n).as_arguments) ≤ count * 4096
  unfolding reading_of indices
  arguments-short zero n m c = rw (reading-outside h s n (omega arith)) (omega arith)
  arguments-short (suc count) n m c = dite (dec_lt n h.nodes)
      (λ l. let next = next_lvalue_lem h s F.few n l (node_of s.nodes n) (fitting h s F n l) (c l) in
      let a = rw (reading-rule h s n l) at (lvalue-short n c) in
      let b = arguments-short count (node_of s.nodes n).next (omega (arith, next.behind)) next.classed in
      let d = length-append (index (lvalue_of n (node_of s.nodes n) (behind_of h s n))) (indices (reading_at h s (node_of s.nodes n).next).as_arguments) in
      rw (reading-rule h s n l) (rw (later h s n (node_of s.nodes n).next next.behind) (omega arith)))
      (λ l. rw (reading-outside h s n (omega arith)) (omega arith))

  brief : (count n : ℕ) → h.nodes ≤ n + count → OfClass h s is_statement n → Brief (reading_at h s n).as_stmt × Brief (reading_at h s n).as_stmts
  unfolding reading_of Brief
  brief zero n m c = rw (reading-outside h s n (omega arith)) (tt, tt)
  brief (suc count) n m c = dite (dec_lt n h.nodes)
      (λ l. let r = node_of s.nodes n in
      let f = fitting h s F n l in
      let rest : (v : ℕ) → Child h s n is_statement v → Brief (behind_of h s n v).as_stmt × Brief (behind_of h s n v).as_stmts =
      λ v d. rw (later h s n v d.behind) (brief count v (omega (arith, d.behind)) d.classed) in
      let here = stmt_brief h s F.few n l r f (behind_of h s n) (expr_behind n)
      (λ v d. rw (later h s n v d.behind) (lvalue-short v d.classed))
      (λ v d. rw (later h s n v d.behind) (arguments-short 4096 v (omega (arith, F.few)) d.classed)) rest (c l) in
      rw (reading-rule h s n l) (here, (here, (rest r.next (next_statement_lem h s F.few n l r f (c l))).1)))
      (λ l. rw (reading-outside h s n (omega arith)) (tt, tt))

  -- The bodies of an accepted image.
  pub brief_bodies : (p : ℕ) → p < h.procedures → Brief (body_of h s p)
  unfolding body_of
  brief_bodies p l = (brief h.nodes (procedure_of s.procedures p).body (omega arith) (λ _. F.body p l)).0
