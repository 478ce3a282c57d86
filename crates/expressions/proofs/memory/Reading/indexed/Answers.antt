-- The index is not below the count.
use Rattle.expressions.proofs.Laws.{inside_refused}
use Rattle.expressions.proofs.memory.Reading.indexed.Goals as goal

pub returns-in_err-given-clause-finds : goal.returns-in_err-given-clause-finds
returns-in_err-given-clause-finds c = λ trace entries. inside_refused _ _ _ _ _ c.from_residual.ensures.1 (rw c.count_of.ensures.0 at c.in_err-given.ensures)
