-- The first test that refuses decides.
use Rattle.std.proofs.Math.Nat.{add-sub_cancel_left}
use Rattle.std.proofs.lemmas.Result.{err_from_is_err_and}
use Rattle.records.specs.Refusals.{then-stops, then-on}
use Rattle.expressions.proofs.Laws.{block-ends}
use Rattle.expressions.proofs.memory.Reading.block_end.Goals as goal

pub returns-in_err-given : goal.returns-in_err-given
returns-in_err-given c =
    λ trace left entries s h.
    let p = err_from_is_err_and c.from_residual.result c.from_residual.ensures.1 in
    block-ends _ _ _ _ s h _ (rw (p.1, p.2, ← (rw add-sub_cancel_left at c.cleared.ensures)) (then-stops c.in_err-given.field-0.0 _ _ c.in_err-given.ensures))

pub returns : goal.returns
returns c =
    λ trace left entries s h.
    block-ends _ _ _ _ s h _ (rw (← (rw add-sub_cancel_left at c.cleared.ensures), ← (rw add-sub_cancel_left at c.cleared-2.ensures)) (then-on c.in_ok-given.ensures c.given-2.ensures))
