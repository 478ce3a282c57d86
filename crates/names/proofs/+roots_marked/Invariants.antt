use Prim.Native.Nat.{◌-◌}
use Rattle.names.proofs.+roots_marked.Given as goal

abbrev pub decreases-roots_marked : goal.decreases-roots_marked
decreases-roots_marked l = 65535 - l.n
