-- The cell is written and emitted, as the rules change it.
use Rattle.expressions.proofs.Laws.{change-done}
use Rattle.expressions.proofs.updates.change.Goals as goal

pub returns-clause-writes : goal.returns-clause-writes
returns-clause-writes c = λ left. change-done _ _ _ (rw (c.updated.ensures, c.get_or-x.ensures) at c.put.ensures) c.push_cell.ensures.emits
