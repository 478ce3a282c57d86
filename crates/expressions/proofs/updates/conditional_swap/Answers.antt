-- A condition that is worked out, and then a swap on it.
use Rattle.expressions.specs.Commands.{exchanging_if}
use Rattle.expressions.specs.Results.{passed_on, reads, reads_refused}
use Rattle.expressions.proofs.updates.conditional_swap.Goals as goal

pub returns-in_err-v-clause-does : goal.returns-in_err-v-clause-does
unfolding exchanging_if
returns-in_err-v-clause-does c = λ h s p.
    rw (passed_on _ c.from_residual.ensures.1, c.value.ensures.same.1) (reads_refused _ _ _ (c.in_err-v.ensures.finds h s p))

pub returns-clause-does : goal.returns-clause-does
unfolding exchanging_if
returns-clause-does c = λ h s p.
    reads _ _ _ (c.in_ok-v.ensures.finds h s p) (rw c.value.ensures.same.1 at (c.swap.ensures.does h s p))
