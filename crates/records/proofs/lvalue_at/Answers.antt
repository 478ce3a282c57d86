-- The head's equation put into the decoder's.
use mathlib.Core.Path.{ap, ◌∙◌}
use Rattle.records.specs.Decode.{lvalue_by}
use Rattle.records.proofs.lvalue_at.Goals as goal

pub returns : goal.returns
returns c = c.lvalue_of.ensures ∙ ap (lvalue_by _) c.record_at.ensures
