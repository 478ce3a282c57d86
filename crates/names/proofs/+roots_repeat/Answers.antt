-- Along the chain to the first root that was seen; each root is taken in as it is passed.
use Rattle.names.specs.Marks.{repeats-none, repeats-here, repeats-later}
use Rattle.names.specs.Chains.{head_small, head_roots, end_roots}
use Rattle.names.proofs.+roots_repeat.Goals as goal

pub returns-in_default : goal.returns-in_default
returns-in_default t c = λ h s k. rw (end_roots c.in_default.ensures k) repeats-none

pub returns-then-contains : goal.returns-then-contains
returns-then-contains t c =
    λ h s k.
    let g = c.in-Some.ensures.head h s k in
    rw (head_roots g, ← c.root-root.ensures) (repeats-here (rw c.root-root.ensures (head_small g)) c.contains.ensures.tells c.if-contains.true)

pub returns : goal.returns
returns t c =
    λ h s k.
    let g = c.in-Some.ensures.head h s k in
    rw (head_roots g, ← c.root-root.ensures)
    (repeats-later (rw c.root-root.ensures (head_small g)) c.contains.ensures.tells c.if-contains.false (c.insert.ensures (rw c.root-root.ensures (head_small g))) (c.roots_repeat.ensures h s g.rest))
