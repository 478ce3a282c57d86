-- No step is left, or one fewer after the event.
use Rattle.expressions.proofs.Laws.{step_out, step_taken}
use Rattle.expressions.proofs.trace.Trace.step.Goals as goal

pub returns-in_err-given-clause-does : goal.returns-in_err-given-clause-does
returns-in_err-given-clause-does c = λ σ s h. step_out _ σ s h _ _ c.from_residual.ensures.1 c.in_err-given.ensures

pub returns-clause-does : goal.returns-clause-does
returns-clause-does c = λ σ s h. rw c.push.ensures.same.1 (step_taken _ σ s h c.in_ok-given.ensures (rw c.from.ensures at c.push.ensures.emits))
