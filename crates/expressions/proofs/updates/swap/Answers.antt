-- Two cells are found one after the other, and then exchanged.
use Rattle.expressions.specs.Commands.{exchanging}
use Rattle.expressions.specs.Results.{passed_on, reads, reads_refused}
use Rattle.expressions.proofs.updates.swap.Goals as goal

pub returns-in_err-i-clause-does : goal.returns-in_err-i-clause-does
unfolding exchanging
returns-in_err-i-clause-does c = λ h s p.
    rw (passed_on _ c.from_residual.ensures.1, c.address.ensures.same.1) (reads_refused _ _ _ (c.in_err-i.ensures.finds h s p))

pub returns-in_err-j-clause-does : goal.returns-in_err-j-clause-does
unfolding exchanging
returns-in_err-j-clause-does c = λ h s p.
    rw (passed_on _ c.from_residual-in_err-j.ensures.1, c.address-2.ensures.same.1, c.address.ensures.same.1) (reads _ _ _ (c.in_ok-i.ensures.finds h s p)
    (reads_refused _ _ _ (c.in_err-j.ensures.finds h s p)))

pub returns-clause-does : goal.returns-clause-does
unfolding exchanging
returns-clause-does c = λ h s p.
    rw (c.exchange.ensures.same.1, c.address-2.ensures.same.1, c.address.ensures.same.1) (reads _ _ _ (c.in_ok-i.ensures.finds h s p)
    (reads _ _ _ (c.in_ok-j.ensures.finds h s p) (c.exchange.ensures.writes _)))
