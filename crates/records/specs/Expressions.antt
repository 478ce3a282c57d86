-- An expression is none of the statements' cases: it is taken apart as an expression. An expression or L-value is known by the head of its record.
use Rattle.std.specs.Prelude.{ℕ, ◌≤◌, ◌<◌, ◌≡◌, List, true, false, eqb, leb}
use Rattle.std.proofs.Math.Path.{refl}
use Rattle.std.proofs.Common.{arith, leb-true, ne_eqb}
use Rattle.std.proofs.lemmas.Bool.{and_parts}
use Rattle.rules.specs.Image.{Node, is_expression}
use Rattle.records.specs.Records.{headed}
use Rattle.records.specs.Decode.{lvalue_by, expression_by, decoded_by}

module _ (n : ℕ) (r : Node) where
  pub lvalue-headed : lvalue_by n (headed r) ≡ lvalue_by n r
  unfolding lvalue_by
  lvalue-headed = refl

  pub expression-headed : expression_by n (headed r) ≡ expression_by n r
  unfolding expression_by lvalue_by
  expression-headed = refl

  other : (k : ℕ) → k < 20 → is_expression r.kind ≡ true → eqb r.kind k ≡ false
  other k small i = let low : 20 ≤ r.kind = leb-true _ _ (and_parts (leb 20 r.kind) _ i).0 in ne_eqb r.kind k (λ e. omega arith)

  pub decoded_expression : (s : List ℕ) → is_expression r.kind ≡ true → decoded_by s n r ≡ expression_by n r
  unfolding decoded_by
  decoded_expression s i =
      rw (
        other 1 (omega arith) i,
        other 2 (omega arith) i,
        other 3 (omega arith) i,
        other 4 (omega arith) i,
        other 5 (omega arith) i,
        other 6 (omega arith) i,
        other 7 (omega arith) i,
        other 8 (omega arith) i,
        other 9 (omega arith) i,
      )
