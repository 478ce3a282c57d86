-- To turn right is to turn left by the rest of the way round, and by no places to turn nothing.
use Rattle.std.proofs.Common.{sym, ◌∙◌, le_of_lt}
use Rattle.rules.specs.Words.{changed_by}
use Rattle.numbers.specs.Laws.{right_is_left}
use Rattle.words.proofs.Machine.{right_by_none}
use Rattle.words.proofs.rotate_right.Goals as goal

pub returns-then-by-eq0 : goal.returns-then-by-eq0
unfolding changed_by
returns-then-by-eq0 c =
    let args = c.args in
    rw (sym c.places-by.ensures.0 ∙ c.if-by-eq0.true) (sym (right_by_none args.z args.x))

pub returns-else-by-eq0 : goal.returns-else-by-eq0
unfolding changed_by
returns-else-by-eq0 c =
    let args = c.args in
    let by = c.places-by in
    rw (← by.ensures.0)
    (c.turned_left.ensures ∙ sym (right_is_left args.z by.result args.x (le_of_lt by.ensures.1)))
