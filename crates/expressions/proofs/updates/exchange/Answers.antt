-- Both cells are written and emitted, as the rules exchange them.
use Rattle.expressions.proofs.Laws.{exchange-done}
use Rattle.expressions.proofs.updates.exchange.Goals as goal

pub returns-clause-writes : goal.returns-clause-writes
returns-clause-writes c = λ left.
    exchange-done _ _ _ _
    (rw (c.put.ensures, c.exchange-first.ensures.0, c.exchange-first.ensures.1, c.get_or.ensures, c.get_or-2.ensures) at c.put-2.ensures)
    c.push_cell.ensures.emits c.push_cell-2.ensures.emits
