-- The head's equation put into the decoder's; an expression is none of the statements' cases.
use mathlib.Core.Path.{sym, ap, ◌∙◌}
use Rattle.records.specs.Decode.{expression_by}
use Rattle.records.specs.Expressions.{decoded_expression}
use Rattle.records.proofs.expression_at.Goals as goal

pub returns : goal.returns
returns c = c.expression_taken_apart.ensures ∙ ap (expression_by _) c.record_at.ensures ∙ sym (decoded_expression _ _ c.args.nodes.now c.requires)
