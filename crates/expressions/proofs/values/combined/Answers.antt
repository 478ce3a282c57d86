-- The operator divides, and the second value is 0.
use Rattle.expressions.proofs.Laws.{divided_refused}
use Rattle.expressions.proofs.values.combined.Goals as goal

pub returns-in_err-given : goal.returns-in_err-given
returns-in_err-given c = λ trace entries. divided_refused _ _ _ _ _ _ c.from_residual.ensures.1 (rw c.zero_divisor.ensures at c.in_err-given.ensures)
