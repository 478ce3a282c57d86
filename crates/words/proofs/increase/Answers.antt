-- The sum may be cut to 64 bits first, since z is at most 64.
use Rattle.rules.specs.Words.{operate, changed_by}
use Rattle.words.proofs.Machine.{increase-cut}
use Rattle.words.proofs.increase.Goals as goal

pub returns : goal.returns
unfolding operate changed_by
returns c =
    let args = c.args in
    rw (c.cut.ensures, c.plus.ensures)
    (increase-cut args.z 64 c.requires.1 args.x args.v)
