use Prim.Native.Nat.{◌-◌}
use Rattle.expressions.proofs.lending.+arguments.Given as goal

abbrev pub decreases-arguments : goal.decreases-arguments
decreases-arguments l = 65535 - l.n
