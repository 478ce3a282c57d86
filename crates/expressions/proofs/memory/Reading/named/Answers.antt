-- The record says whether the variable is a constant.
use mathlib.Core.Path.{sym, ap, ◌∙◌}
use borrow.Author.Rules.{rules}
use Rattle.rules.specs.Image.{Variable, variable_of, constant_of, is_constant}
use Rattle.expressions.proofs.Laws.{named-constant, named-cell}
use Rattle.expressions.proofs.memory.Reading.named.Goals as goal

pub returns-then-is_constant-clause-finds : goal.returns-then-is_constant-clause-finds
returns-then-is_constant-clause-finds c =
    λ n. named-constant _ _ (variable_of c.args.self.now.parts.now.variables.now c.args.x) _ n _ _
    (sym (ap (λ (r : Variable). is_constant r) c.variable_at-record.ensures) ∙ sym c.is_constant.ensures ∙ c.if-is_constant.true)
    (c.constant_at.ensures ∙ ap (λ (r : Variable). constant_of c.args.self.now.parts.now.constants.now r.extra) c.variable_at-record.ensures) (search rules)

pub returns-clause-finds : goal.returns-clause-finds
returns-clause-finds c =
    λ n. named-cell _ _ (variable_of c.args.self.now.parts.now.variables.now c.args.x) _ n _
    (sym (ap (λ (r : Variable). is_constant r) c.variable_at-record.ensures) ∙ sym c.is_constant.ensures ∙ c.if-is_constant.false)
    (rw c.base_of.ensures.0 at c.loaded.ensures.finds)
