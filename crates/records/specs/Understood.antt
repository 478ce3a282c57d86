-- In an image whose node records fit, every node is understood: the case that it is decoded into says what it is read as and what it refers to.
use Rattle.std.specs.Prelude.{ℕ, ◌+◌, ◌≤◌, ◌<◌, ◌≡◌, refl, eqb, leb, Option, Some, None, Ok, Err}
use Rattle.std.proofs.Common.{◌∙◌, ⊎_elim, arith}
use Rattle.std.proofs.Math.Bool.{true}
use borrow.Author.Tests.{ltb-true, leb-true, eqb-true, eqb-false, le-leb}
use Rattle.std.proofs.lemmas.Bool.{and_parts, cond_both, or_cases}
use Rattle.rules.specs.Image.{missing, Header, Parts, Node, node_of, is_statement, is_expression, is_lvalue}
use Rattle.rules.specs.Form.{fields, field_fits, record_fits}
use Rattle.rules.specs.Tree.{expr_of, lvalue_of, stmt_of, reading_at}
use Rattle.records.specs.Fits.{Child, Fits, fits, child, child_or_missing, next_lvalue_lem}
use Rattle.records.specs.Reading.{stmt_reading, expr_reading, lvalue-reading, arguments-reading}
use Rattle.records.specs.Cases.{place_of, value_of, node_of_lvalue, Named, Targeted, Means, Refers, Understood}
use Rattle.records.specs.Decode.{lvalue_by, lvalue_at, Decoded, with_target, expression_by, decoded_by, decoded_at, argument_at}
use Rattle.records.specs.declared.LValue.{LValue}
use Rattle.records.specs.declared.Node as case
use Rattle.records.specs.declared.refusal.Refusal.{Refusal}
use Rattle.records.specs.Truth.{past, last}

-- What is known of a node that is an L-value.
pub record Placed (h : Header) (s : Parts) (m : ℕ) (l : LValue) : Type 0 where
  pub place : (reading_at h s m).as_lvalue ≡ place_of h s l
  pub value : (reading_at h s m).as_expr ≡ value_of h s l
  pub here : node_of_lvalue l ≡ m
  pub names : Named h s l

abbrev pub Stands : Header → Parts → ℕ → Option LValue → Type 0
Stands h s m (Some l) = Placed h s m l
Stands h s m None = ⊥

with_target_lem : (h : Header) (s : Parts) (m : ℕ) (P : Decoded → Type 0) (t : Option LValue) (n : ℕ) (made : LValue → Decoded)
    → Stands h s m t → ((l : LValue) → Placed h s m l → P (made l)) → P (with_target t n made)
with_target_lem h s m P (Some l) n made p go = go l p
with_target_lem h s m P None n made p go = absurd p

-- A record by itself, with what its node is read as.
module _ (h : Header) (s : Parts) (n : ℕ) (r : Node) (f : Fits h s.nodes n r)
    (as-expr : is_expression r.kind ≡ true → (reading_at h s n).as_expr ≡ expr_of s n r (reading_at h s))
    (as-lvalue : is_lvalue r.kind ≡ true → (reading_at h s n).as_lvalue ≡ lvalue_of n r (reading_at h s)) where
  lvalue-stands : is_lvalue r.kind ≡ true → Stands h s n (lvalue_by n r)
  unfolding lvalue_by lvalue_of expr_of field_fits fields
  lvalue-stands i =
      let low : 21 ≤ r.kind = leb-true _ _ (and_parts (leb 21 r.kind) _ i).0 in
      let high : r.kind ≤ 23 = leb-true _ _ (and_parts (leb 21 r.kind) _ i).1 in
      cond_both (eqb r.kind 21) _ _ (Stands h s n)
      (λ e. let k = eqb-true r.kind 21 e in
      record { place = as-lvalue i ∙ rw k; value = as-expr (rw k) ∙ rw k; here = refl; names = ltb-true _ _ (rw k at f.field_a) })
      (λ n₁. cond_both (eqb r.kind 22) _ _ (Stands h s n)
      (λ e. let k = eqb-true r.kind 22 e in
      record {
        place = as-lvalue i ∙ rw k;
        value = as-expr (rw k) ∙ rw k;
        here = refl;
        names = (ltb-true _ _ (rw k at f.field_a), child h s.nodes n is_expression r.b (rw k at f.field_b));
      })
      (λ n₂. let k : r.kind ≡ 23 = last 22 r.kind (past 21 _ low n₁) n₂ high in
      rw k
      (record {
        place = as-lvalue i ∙ rw k;
        value = as-expr (rw k) ∙ rw k;
        here = refl;
        names = (ltb-true _ _ (rw k at f.field_a), child h s.nodes n is_expression r.b (rw k at f.field_b));
      })))

  expression-understood : is_expression r.kind ≡ true → Understood h s n (expression_by n r)
  unfolding expression_by expr_of field_fits fields
  expression-understood i =
      let low : 20 ≤ r.kind = leb-true _ _ (and_parts (leb 20 r.kind) _ i).0 in
      let high : r.kind ≤ 26 = leb-true _ _ (and_parts (leb 20 r.kind) _ i).1 in
      cond_both (eqb r.kind 20) _ _ (Understood h s n)
      (λ e. let k = eqb-true r.kind 20 e in (as-expr i ∙ rw k, ltb-true _ _ (rw k at f.field_a)))
      (λ n₁. cond_both (eqb r.kind 24) _ _ (Understood h s n)
      (λ e. let k = eqb-true r.kind 24 e in (as-expr i ∙ rw k, ltb-true _ _ (rw k at f.field_a)))
      (λ n₂. cond_both (eqb r.kind 25) _ _ (Understood h s n)
      (λ e. let k = eqb-true r.kind 25 e in
      (as-expr i ∙ rw k, (child h s.nodes n is_expression r.a (rw k at f.field_a), child h s.nodes n is_expression r.b (rw k at f.field_b))))
      (λ n₃. cond_both (eqb r.kind 26) _ _ (Understood h s n)
      (λ e. let k = eqb-true r.kind 26 e in (as-expr i ∙ rw k, child h s.nodes n is_expression r.a (rw k at f.field_a)))
      (λ n₄.
      let at_least : 21 ≤ r.kind = omega (arith, eqb-false r.kind 20 n₁) in
      let at_most : r.kind ≤ 23 = omega (arith, eqb-false r.kind 24 n₂, eqb-false r.kind 25 n₃, eqb-false r.kind 26 n₄) in
      with_target_lem h s n (Understood h s n) (lvalue_by n r) n _ (lvalue-stands (rw (le-leb 21 r.kind at_least) (le-leb r.kind 23 at_most))) (λ l p. (p.value, p.names))))))

  -- The L-value that a field refers to stands as a target of n.
  module _ (as-stmt : is_statement r.kind ≡ true → (reading_at h s n).as_stmt ≡ stmt_of n r (reading_at h s))
      (stands : (m : ℕ) → m < h.nodes → is_lvalue (node_of s.nodes m).kind ≡ true → Stands h s m (lvalue_at s.nodes m)) where
    target : (P : Decoded → Type 0) (v : ℕ) (made : LValue → Decoded) → Child h s.nodes n is_lvalue v
        → ((l : LValue) → (reading_at h s v).as_lvalue ≡ place_of h s l → Targeted h s n l → P (made l)) → P (with_target (lvalue_at s.nodes v) n made)
    target P v made x go =
        with_target_lem h s v P (lvalue_at s.nodes v) n made (stands v x.inside x.classed)
        (λ l p. go l p.place (rw p.here x, p.names))

    -- The range of a block that declares none begins at 0.
    declares : field_fits h s.nodes n r.b 9 r.a ≡ true → r.a + r.b ≤ h.variables
    unfolding field_fits
    declares =
        cond_both (eqb r.b 0) _ _ (λ t. t ≡ true → r.a + r.b ≤ h.variables)
        (λ e z. omega (arith, eqb-true r.b 0 e, eqb-true r.a 0 z)) (λ e z. leb-true _ _ z)

    decoded_understood : Understood h s n (decoded_by s.nodes n r)
    unfolding decoded_by stmt_of field_fits fields
    decoded_understood =
        cond_both (eqb r.kind 1) _ _ (Understood h s n)
        (λ e. let k = eqb-true r.kind 1 e in (as-stmt (rw k) ∙ rw k, tt))
        (λ n₁. cond_both (eqb r.kind 2) _ _ (Understood h s n)
        (λ e. let k = eqb-true r.kind 2 e in
        target (Understood h s n) r.a _ (child h s.nodes n is_lvalue r.a (rw k at f.field_a))
        (λ l p t. (as-stmt (rw k) ∙ rw (k, p), (t, child h s.nodes n is_expression r.b (rw k at f.field_b)))))
        (λ n₂. cond_both (eqb r.kind 3) _ _ (Understood h s n)
        (λ e. let k = eqb-true r.kind 3 e in
        target (Understood h s n) r.a _ (child h s.nodes n is_lvalue r.a (rw k at f.field_a))
        (λ l p t. target (Understood h s n) r.b _ (child h s.nodes n is_lvalue r.b (rw k at f.field_b))
        (λ m q u. (as-stmt (rw k) ∙ rw (k, p, q), (t, u)))))
        (λ n₃. cond_both (eqb r.kind 4) _ _ (Understood h s n)
        (λ e. let k = eqb-true r.kind 4 e in
        target (Understood h s n) r.b _ (child h s.nodes n is_lvalue r.b (rw k at f.field_b))
        (λ l p t. target (Understood h s n) r.c _ (child h s.nodes n is_lvalue r.c (rw k at f.field_c))
        (λ m q u. (as-stmt (rw k) ∙ rw (k, p, q), (child h s.nodes n is_expression r.a (rw k at f.field_a), (t, u))))))
        (λ n₄. cond_both (eqb r.kind 5) _ _ (Understood h s n)
        (λ e. let k = eqb-true r.kind 5 e in (
          as-stmt (rw k) ∙ rw k,
          (
            child h s.nodes n is_expression r.a (rw k at f.field_a),
            (child h s.nodes n is_statement r.b (rw k at f.field_b), child h s.nodes n is_statement r.c (rw k at f.field_c)),
          ),
        ))
        (λ n₅. cond_both (eqb r.kind 6) _ _ (Understood h s n)
        (λ e. let k = eqb-true r.kind 6 e in (
          as-stmt (rw k) ∙ rw k,
          (
            ltb-true _ _ (rw k at f.field_a),
            (
              child h s.nodes n is_expression r.b (rw k at f.field_b),
              (child h s.nodes n is_expression r.c (rw k at f.field_c), child h s.nodes n is_statement r.d (rw k at f.field_d)),
            ),
          ),
        ))
        (λ n₆. cond_both (eqb r.kind 7) _ _ (Understood h s n)
        (λ e. let k = eqb-true r.kind 7 e in
        (as-stmt (rw k) ∙ rw k, (ltb-true _ _ (rw k at f.field_a), child_or_missing h s.nodes n is_lvalue r.b (rw k at f.field_b))))
        (λ n₇. cond_both (eqb r.kind 8) _ _ (Understood h s n)
        (λ e. let k = eqb-true r.kind 8 e in
        (as-stmt (rw k) ∙ rw k, (ltb-true _ _ (rw k at f.field_a), child_or_missing h s.nodes n is_lvalue r.b (rw k at f.field_b))))
        (λ n₈. cond_both (eqb r.kind 9) _ _ (Understood h s n)
        (λ e. let k = eqb-true r.kind 9 e in
        (as-stmt (rw k) ∙ rw k, (declares (rw k at f.field_a), child_or_missing h s.nodes n is_statement r.c (rw k at f.field_c))))
        (λ n₉. expression-understood
        (⊎_elim
        (λ i.
        let low : 1 ≤ r.kind = leb-true _ _ (and_parts (leb 1 r.kind) _ i).0 in
        let high : r.kind ≤ 9 = leb-true _ _ (and_parts (leb 1 r.kind) _ i).1 in
        let over : 10 ≤ r.kind = past 9 _ (past 8 _ (past 7 _ (past 6 _ (past 5 _ (past 4 _ (past 3 _ (past 2 _ (past 1 _ low n₁) n₂) n₃) n₄) n₅) n₆) n₇) n₈) n₉ in
        absurd (omega arith))
        (λ i. i) (or_cases (is_statement r.kind) _ f.known)))))))))))

-- The laws to prove code by, over an image whose node records fit.
module _ (h : Header) (s : Parts) (few : h.nodes ≤ missing)
    (fit : (n : ℕ) → n < h.nodes → record_fits h s.nodes n (node_of s.nodes n) ≡ true) where
  pub fit_at : (n : ℕ) → n < h.nodes → Fits h s.nodes n (node_of s.nodes n)
  fit_at n inside = fits h s.nodes n (node_of s.nodes n) (fit n inside)

  pub stands_at : (n : ℕ) → n < h.nodes → is_lvalue (node_of s.nodes n).kind ≡ true → Stands h s n (lvalue_at s.nodes n)
  stands_at n inside i =
      lvalue-stands h s n (node_of s.nodes n) (fit_at n inside)
      (expr_reading h s few n inside (fit_at n inside)) (lvalue-reading h s few n inside (fit_at n inside)) i

  pub understood_at : (n : ℕ) → n < h.nodes → Understood h s n (decoded_at s.nodes n)
  understood_at n inside =
      decoded_understood h s n (node_of s.nodes n) (fit_at n inside)
      (expr_reading h s few n inside (fit_at n inside)) (lvalue-reading h s few n inside (fit_at n inside))
      (stmt_reading h s few n inside (fit_at n inside)) stands_at

  -- An argument, with what follows it.
  pub argument_understood : (by n : ℕ) → n < h.nodes → is_lvalue (node_of s.nodes n).kind ≡ true → Understood h s n (argument_at s.nodes by n)
  argument_understood by n inside i =
      with_target_lem h s n (Understood h s n) (lvalue_at s.nodes n) by _ (stands_at n inside i)
      (λ l p. (arguments-reading h s few n inside (fit_at n inside) i ∙ rw p.place, (p.names, next_lvalue_lem h s.nodes n (node_of s.nodes n) (fit_at n inside) i)))

  -- What a decoded case means and refers to.
  pub means : (n : ℕ) → n < h.nodes → (x : case.Node) → decoded_at s.nodes n ≡ Ok x → Means h s n x
  means n inside x e = (rw e at (understood_at n inside)).0

  pub refers_to : (n : ℕ) → n < h.nodes → (x : case.Node) → decoded_at s.nodes n ≡ Ok x → Refers h s n x
  refers_to n inside x e = (rw e at (understood_at n inside)).1

  -- No node is refused.
  pub not_refused : (n : ℕ) → n < h.nodes → (r : Refusal) → decoded_at s.nodes n ≡ Err r → ⊥
  not_refused n inside r e = rw e at (understood_at n inside)
