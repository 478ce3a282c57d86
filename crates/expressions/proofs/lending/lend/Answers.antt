-- The slot that is written is the lent one, case by case.
use Rattle.expressions.proofs.Rows.{lent-whole, lent-entry}
use Rattle.expressions.proofs.Targets.{some_entry}
use Rattle.expressions.proofs.lending.lend.Goals.{in-Variable, in-Element}
use Rattle.expressions.proofs.lending.lend.Goals as goal

pub returns-clause-lends : goal.returns-clause-lends
returns-clause-lends c =
    λ small room h s.
    let own = rw c.root.ensures at c.slot_at-slot.ensures in
    elim c.match-target.branch [
      | in-Variable w ↦ lent-whole _ _ _ _ h s _ room _ own _ _ w.in-Variable.is (rw w.lent-is at c.put.ensures)
      | in-Element w ↦ lent-entry _ _ _ _ h s _ room _ own (some_entry w.in-Element.is).3 _ (w.low16.ensures small) (rw w.lent-is at c.put.ensures)
    ]
