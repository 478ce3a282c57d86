-- One after the other.
use Rattle.names.specs.Marks.{touches_left, touches_right}
use Rattle.walker.proofs.Walk.either_changes.Goals as goal

pub returns-then-changes : goal.returns-then-changes
returns-then-changes c = record { is = λ h s y z. touches_left _ (c.changes.ensures h s y) c.if-changes.true }

pub returns-else-changes : goal.returns-else-changes
returns-else-changes c = record { is = λ h s y z. touches_right (c.changes.ensures h s y) c.if-changes.false (c.changes-else-changes.ensures h s z) }
