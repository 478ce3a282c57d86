use Prim.Native.Nat.{◌-◌}
use Rattle.names.proofs.+insert_indices.Given as goal

abbrev pub decreases-insert_indices : goal.decreases-insert_indices
decreases-insert_indices l = 65535 - l.n
