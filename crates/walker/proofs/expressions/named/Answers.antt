-- The mark tells whether the name is in scope.
use Rattle.rules.specs.Walk.{named}
use Rattle.walker.specs.Judge.{stops, then-on}
use Rattle.walker.proofs.expressions.named.Goals as goal

pub returns-in_err-given : goal.returns-in_err-given
unfolding named
returns-in_err-given c = λ Γ m l. rw (← c.contains.ensures.tells Γ m l) (stops _ _ _ c.from_residual.ensures.1 c.in_err-given.ensures)

pub returns : goal.returns
unfolding named
returns c = λ Γ m l. rw (← c.contains.ensures.tells Γ m l) (then-on c.in_ok-given.ensures c.given-2.ensures)
