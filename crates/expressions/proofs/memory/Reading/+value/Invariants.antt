use Prim.Native.Nat.{◌-◌}
use Rattle.expressions.proofs.memory.Reading.+value.Given as goal

abbrev pub decreases-value : goal.decreases-value
decreases-value l = 65535 - l.n
