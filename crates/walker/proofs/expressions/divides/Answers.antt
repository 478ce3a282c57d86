-- The two operators, those before them and those behind.
use mathlib.Core.Path.{◌∙◌}
use native.Mathlib.Omega.{arith}
use Rattle.std.proofs.lemmas.Bool.Decides.{nat_tests}
use Rattle.walker.specs.Judge.{slow-operator}
use Rattle.walker.proofs.expressions.divides.Goals as goal

pub returns-in-4 : goal.returns-in-4
returns-in-4 c = grind (arith, nat_tests) ∙ slow-operator c.args.operator

pub returns-in_default : goal.returns-in_default
returns-in_default c = grind (arith, nat_tests) ∙ slow-operator c.args.operator

pub returns-in_default-2 : goal.returns-in_default-2
returns-in_default-2 c = grind (arith, nat_tests) ∙ slow-operator c.args.operator
