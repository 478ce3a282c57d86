use Prim.Native.Nat.{◌-◌}
use Rattle.names.proofs.+roots_repeat.Given as goal

abbrev pub decreases-roots_repeat : goal.decreases-roots_repeat
decreases-roots_repeat l = 65535 - l.n
