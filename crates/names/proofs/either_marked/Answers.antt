-- One after the other.
use Rattle.names.specs.Marks.{touches_here, touches_later, touches_one}
use Rattle.names.proofs.either_marked.Goals as goal

pub returns-then-contains : goal.returns-then-contains
returns-then-contains c = λ l k. rw (← c.root.ensures) (touches_here (rw c.root.ensures l) c.contains.ensures.tells c.if-contains.true)

pub returns-else-contains : goal.returns-else-contains
returns-else-contains c =
    λ l k.
    rw (← c.root.ensures, ← c.root-else-contains.ensures)
    (touches_later (rw c.root.ensures l) c.contains.ensures.tells c.if-contains.false (touches_one (rw c.root-else-contains.ensures k) c.contains-else-contains.ensures.tells))
