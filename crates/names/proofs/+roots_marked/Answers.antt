-- Along the chain to the first root that is among the names.
use Rattle.names.specs.Marks.{touches_none, touches_first, touches_later}
use Rattle.names.specs.Chains.{head_small, head_roots, end_roots}
use Rattle.names.proofs.+roots_marked.Goals as goal

pub returns-in_default : goal.returns-in_default
returns-in_default t c = λ h s k. rw (end_roots c.in_default.ensures k) touches_none

pub returns-then-contains : goal.returns-then-contains
returns-then-contains t c =
    λ h s k.
    let g = c.in-Some.ensures.head h s k in
    rw (head_roots g, ← c.root.ensures, c.if-contains.true) (touches_first (rw c.root.ensures (head_small g)) c.contains.ensures.tells c.if-contains.true)

pub returns-else-contains : goal.returns-else-contains
returns-else-contains t c =
    λ h s k.
    let g = c.in-Some.ensures.head h s k in
    rw (head_roots g, ← c.root.ensures) (touches_later (rw c.root.ensures (head_small g)) c.contains.ensures.tells c.if-contains.false (c.roots_marked.ensures h s g.rest))
