-- The lowest name that is not taken, by the law of 8.
use mathlib.Core.Path.{◌∙◌}
use Rattle.records.specs.Records.{as_procedure}
use Rattle.checker.specs.Prepared.{undeclared_is}
use Rattle.checker.proofs.undeclared.Goals as goal

pub returns : goal.returns
returns c = λ t m. c.lowest.ensures ∙ undeclared_is (as_procedure c.args.q) _ t m c.requires.ends c.requires.parameters _ c.first_untaken.ensures
