use Prim.Native.Nat.{◌-◌}
use Rattle.walker.proofs.Walk.+arguments_fit.Given as goal

abbrev pub decreases-arguments_fit : goal.decreases-arguments_fit
decreases-arguments_fit l = 65535 - l.n
