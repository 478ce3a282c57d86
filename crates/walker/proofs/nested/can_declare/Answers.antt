-- The bounds of the range, and the mark.
use mathlib.Core.Path.{ap}
use mathlib.Core.Bool.{not}
use Rattle.walker.specs.Nested.{declarable_own, declarable_other}
use Rattle.walker.proofs.nested.can_declare.Goals as goal

pub returns-then-contains : goal.returns-then-contains
returns-then-contains c =
    λ D m l.
    declarable_own c.args.q D c.args.x c.locals.ensures c.end.ensures c.from.ensures c.contains.ensures.value
    (ap not (c.contains-then-contains.ensures.tells D m l)) c.if-contains.true

pub returns-else-contains : goal.returns-else-contains
returns-else-contains c = λ D m l. declarable_other c.args.q D c.args.x c.locals.ensures c.end.ensures c.from.ensures c.contains.ensures.value c.if-contains.false
