-- The slice shows one event more, and the count is one more or the largest.
use borrow.Author.Rules.{rules}
use Rattle.expressions.specs.Trace.{traced_more}
use Rattle.expressions.proofs.trace.Trace.push.Goals as goal

pub returns-clause-emits : goal.returns-clause-emits
returns-clause-emits c = λ events t. rw (c.put.ensures, c.saturating_add-self.ensures) (traced_more _ _ events t (search rules) _)
