-- The difference may be cut to 64 bits first, since z is at most 64.
use Rattle.std.proofs.Common.{arith}
use Rattle.rules.specs.Words.{operate, changed_by}
use Rattle.words.proofs.Machine.{decrease_cut}
use Rattle.words.proofs.decrease.Goals as goal

pub returns : goal.returns
unfolding operate changed_by
returns c =
    let args = c.args in
    rw (c.cut.ensures, c.minus.ensures)
    (decrease_cut args.z 64 c.requires.1 args.x args.v (omega arith))
