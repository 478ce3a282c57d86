-- An arm's key picks the definition's choice; in the last arm each key is shut out, and the L-value's case decides.
use mathlib.Core.Path.{◌≡◌, sym, ap, ◌∙◌}
use borrow.Author.Tests.{ne_eqb}
use Rattle.std.proofs.Common.{ℕ, arith}
use Rattle.rules.specs.Image.{Node}
use Rattle.records.specs.Records.{as_node}
use Rattle.records.specs.Decode.{lvalue_by, with_target, expression_by}
use Rattle.std.specs.Prelude.{Ok, Err}
use Rattle.records.specs.declared.Node.TheVariants.{Value}
use Rattle.records.proofs.expression_taken_apart.Goals as goal

-- where the kind is none of the four
at_rest : (n : ℕ) (h : Node) → (h.kind ≡ 20 → ⊥) → (h.kind ≡ 24 → ⊥) → (h.kind ≡ 25 → ⊥) → (h.kind ≡ 26 → ⊥)
    → expression_by n h ≡ with_target (lvalue_by n h) n (λ l. Ok (Value l))
unfolding expression_by
at_rest n h constant size binary not = simp (ne_eqb _ _ constant, ne_eqb _ _ size, ne_eqb _ _ binary, ne_eqb _ _ not)

pub returns-in_default-lvalue_of : goal.returns-in_default-lvalue_of
returns-in_default-lvalue_of c = ap (λ r. Err r) c.at.ensures ∙ sym (at_rest c.args.n (as_node c.args.r) (omega arith) (omega arith) (omega arith) (omega arith) ∙ rw (← c.lvalue_of.ensures, c.in_default-lvalue_of.is))

pub returns-in-20 : goal.returns-in-20
unfolding expression_by
returns-in-20 c = rw c.in-20.is

pub returns-in-24 : goal.returns-in-24
unfolding expression_by
returns-in-24 c = rw c.in-24.is

pub returns-in-25 : goal.returns-in-25
unfolding expression_by
returns-in-25 c = rw c.in-25.is

pub returns-in-26 : goal.returns-in-26
unfolding expression_by
returns-in-26 c = rw c.in-26.is

pub returns-in-Some : goal.returns-in-Some
returns-in-Some c = sym (at_rest c.args.n (as_node c.args.r) (omega arith) (omega arith) (omega arith) (omega arith) ∙ rw (← c.lvalue_of.ensures, c.in-Some.is))
