use Rattle.std.proofs.Common.{length}
use Rattle.stream.proofs.lines.Given as goal

abbrev pub decreases-loop-head : goal.decreases-loop-head
decreases-loop-head l = length l.rest
