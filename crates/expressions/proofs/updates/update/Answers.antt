-- A cell and a value are found one after the other, and then the cell is changed.
use Rattle.expressions.specs.Relations.{slot_of}
use Rattle.expressions.specs.Commands.{updating}
use Rattle.expressions.specs.Results.{passed_on, reads, reads_refused}
use Rattle.expressions.proofs.Targets.{update_as}
use Rattle.expressions.proofs.updates.update.Goals as goal

pub returns-in_err-i-clause-does : goal.returns-in_err-i-clause-does
unfolding updating
returns-in_err-i-clause-does c = λ h s p good.
    rw (passed_on _ c.from_residual.ensures.1, c.address.ensures.same.1) (reads_refused _ _ _ (c.in_err-i.ensures.finds h s p))

pub returns-in_err-v-clause-does : goal.returns-in_err-v-clause-does
unfolding updating
returns-in_err-v-clause-does c = λ h s p good.
    rw (passed_on _ c.from_residual-in_err-v.ensures.1, c.value.ensures.same.1, c.address.ensures.same.1) (reads _ _ _ (c.in_ok-i.ensures.finds h s p)
    (reads_refused _ _ _ (c.in_err-v.ensures.finds h s p)))

pub returns-clause-does : goal.returns-clause-does
unfolding updating
returns-clause-does c = λ h s p good.
    rw (c.change.ensures.same.1, c.value.ensures.same.1, c.address.ensures.same.1) (reads _ _ _ (c.in_ok-i.ensures.finds h s p)
    (reads _ _ _ (c.in_ok-v.ensures.finds h s p)
    (update_as (slot_of c.args.slots.now) h s _ _ _ _ _ _ _ _ c.root.ensures good c.width_of-z.ensures.1 c.going_op.ensures (c.change.ensures.writes _))))
