-- The operators that divide.
use Rattle.walker.specs.Judge.{valued, not_valued, refuses}
use Rattle.walker.proofs.expressions.binary.Goals as goal

pub returns-in_err-given : goal.returns-in_err-given
returns-in_err-given c =
    let f = c.from_residual.ensures.1 in
    record { is = refuses _ _ f (rw (← c.divides.ensures) c.in_err-given.ensures); type = not_valued _ _ f _ }

pub returns : goal.returns
returns c = record { is = rw (← c.divides.ensures) c.in_ok-given.ensures; type = valued _ }
