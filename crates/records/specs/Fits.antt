-- What a node's record that fits says of its fields: each reference goes to a larger node number, and to its class.
use Rattle.std.specs.Prelude.{ℕ, ◌≤◌, ◌<◌, ◌≡◌, refl, List, Bool, ◌||◌, ◌⊎◌, eqb, leb, ltb}
use Rattle.std.proofs.Common.{inl, inr, ⊎_elim, arith}
use Rattle.std.proofs.Math.Bool.{true}
use borrow.Author.Tests.{ltb-true, leb-true, eqb-true, eqb-false}
use Rattle.std.proofs.lemmas.Bool.{and_parts, cond_both, or_cases}
use Rattle.rules.specs.Image.{missing, Header, Node, node_of, is_statement, is_expression, is_lvalue}
use Rattle.rules.specs.Form.{class_of, next_statement, next_lvalue, fields, refers, field_fits, operator_fits, record_fits}
use Rattle.rules.specs.Tree.{is_reference}
use Rattle.records.specs.Truth.{every, at_every}

-- A reference of node n: "to a larger node number", inside, of the class.
pub record Child (h : Header) (s : List ℕ) (n : ℕ) (class : ℕ → Bool) (m : ℕ) : Type 0 where
  pub behind : n < m
  pub inside : m < h.nodes
  pub classed : class (node_of s m).kind ≡ true

-- The tests of a record, one by one.
pub record Fits (h : Header) (s : List ℕ) (n : ℕ) (r : Node) : Type 0 where
  pub known : (is_statement r.kind || is_expression r.kind) ≡ true
  pub operators : operator_fits (class_of r.kind 0) r.operator ≡ true
  pub field_a : field_fits h s n r.b (class_of r.kind 1) r.a ≡ true
  pub field_b : field_fits h s n r.b (class_of r.kind 2) r.b ≡ true
  pub field_c : field_fits h s n r.b (class_of r.kind 3) r.c ≡ true
  pub field_d : field_fits h s n r.b (class_of r.kind 4) r.d ≡ true
  pub field_next : field_fits h s n r.b (class_of r.kind 5) r.next ≡ true

module _ (h : Header) (s : List ℕ) (n : ℕ) where
  pub fits : (r : Node) → record_fits h s n r ≡ true → Fits h s n r
  unfolding record_fits
  fits r e =
      let p₁ = and_parts (is_statement r.kind || is_expression r.kind) _ e in
      let p₂ = and_parts (operator_fits (class_of r.kind 0) r.operator) _ p₁.1 in
      let p₃ = and_parts (field_fits h s n r.b (class_of r.kind 1) r.a) _ p₂.1 in
      let p₄ = and_parts (field_fits h s n r.b (class_of r.kind 2) r.b) _ p₃.1 in
      let p₅ = and_parts (field_fits h s n r.b (class_of r.kind 3) r.c) _ p₄.1 in
      let p₆ = and_parts (field_fits h s n r.b (class_of r.kind 4) r.d) _ p₅.1 in
      record { known = p₁.0; operators = p₂.0; field_a = p₃.0; field_b = p₄.0; field_c = p₅.0; field_d = p₆.0; field_next = p₆.1 }

  pub child : (class : ℕ → Bool) (v : ℕ) → refers h s n class v ≡ true → Child h s n class v
  unfolding refers
  child class v e =
      let p = and_parts (ltb n v) _ e in
      let q = and_parts (ltb v h.nodes) _ p.1 in
      record { behind = ltb-true _ _ p.0; inside = ltb-true _ _ q.0; classed = q.1 }

  -- A reference that may be missing.
  pub child_or_missing : (class : ℕ → Bool) (v : ℕ) → (eqb v missing || refers h s n class v) ≡ true → (v ≡ missing) ⊎ Child h s n class v
  child_or_missing class v e = ⊎_elim (λ t. inl (eqb-true _ _ t)) (λ t. inr (child class v t)) (or_cases (eqb v missing) _ e)

  module _ (small : n < missing) where
    missing-behind : (class : ℕ → Bool) (v : ℕ) → (eqb v missing || refers h s n class v) ≡ true → n < v
    missing-behind class v e = ⊎_elim (λ t. omega arith) (λ t. t.behind) (child_or_missing class v e)

    -- Every reference goes to a larger number, a missing one too.
    pub reference-behind : (count class v : ℕ) → is_reference class ≡ true → field_fits h s n count class v ≡ true → n < v
    unfolding field_fits
    reference-behind count class v i =
        let low : 1 ≤ class = leb-true _ _ (and_parts (leb 1 class) _ i).0 in
        let high : class ≤ 5 = leb-true _ _ (and_parts (leb 1 class) _ i).1 in
        cond_both (eqb class 0) _ _ (λ t. t ≡ true → n < v) (λ t e. absurd (omega (arith, eqb-true class 0 t)))
        (λ n₀. cond_both (eqb class 1) _ _ (λ t. t ≡ true → n < v) (λ t e. (child is_expression v e).behind)
        (λ n₁. cond_both (eqb class 2) _ _ (λ t. t ≡ true → n < v) (λ t e. (child is_lvalue v e).behind)
        (λ n₂. cond_both (eqb class 3) _ _ (λ t. t ≡ true → n < v) (λ t e. (child is_statement v e).behind)
        (λ n₃. cond_both (eqb class 4) _ _ (λ t. t ≡ true → n < v) (λ t e. missing-behind is_lvalue v e)
        (λ n₄. cond_both (eqb class 5) _ _ (λ t. t ≡ true → n < v) (λ t e. missing-behind is_statement v e)
        (λ n₅ e. absurd (omega (arith, eqb-false class 1 n₁, eqb-false class 2 n₂, eqb-false class 3 n₃, eqb-false class 4 n₄, eqb-false class 5 n₅))))))))

-- "Only statements and L-values use next, each for its own class."
statement-next : (k : ℕ) → is_statement k ≡ true → class_of k 5 ≡ next_statement
unfolding fields every
statement-next k i =
    let p = and_parts (leb 1 k) _ i in
    let low : 1 ≤ k = leb-true 1 k p.0 in
    let high : k ≤ 9 = leb-true k 9 p.1 in
    eqb-true _ _ (at_every (λ x. eqb (class_of x 5) next_statement) 1 9 k refl low (omega arith))

lvalue-next : (k : ℕ) → is_lvalue k ≡ true → class_of k 5 ≡ next_lvalue
unfolding fields every
lvalue-next k i =
    let p = and_parts (leb 21 k) _ i in
    let low : 21 ≤ k = leb-true 21 k p.0 in
    let high : k ≤ 23 = leb-true k 23 p.1 in
    eqb-true _ _ (at_every (λ x. eqb (class_of x 5) next_lvalue) 21 3 k refl low (omega arith))

module _ (h : Header) (s : List ℕ) (n : ℕ) (r : Node) (f : Fits h s n r) where
  pub next_statement_lem : is_statement r.kind ≡ true → (r.next ≡ missing) ⊎ Child h s n is_statement r.next
  unfolding field_fits
  next_statement_lem i = child_or_missing h s n is_statement r.next (rw (statement-next r.kind i) at f.field_next)

  pub next_lvalue_lem : is_lvalue r.kind ≡ true → (r.next ≡ missing) ⊎ Child h s n is_lvalue r.next
  unfolding field_fits
  next_lvalue_lem i = child_or_missing h s n is_lvalue r.next (rw (lvalue-next r.kind i) at f.field_next)
