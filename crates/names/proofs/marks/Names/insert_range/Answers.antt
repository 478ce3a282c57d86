-- One more name behind those that are in.
use Rattle.names.specs.Marks.{range_none, adds_behind}
use Prim.Native.Nat.{◌+◌, ◌-◌, ◌≤◌}
use mathlib.Core.Path.{◌≡◌}
use native.Mathlib.Omega.{arith}
use Rattle.names.proofs.marks.Names.insert_range.Goals as goal

pub loop-y-init : goal.loop-y-init
loop-y-init c = range_none _ _

pub loop-y-preserved : goal.loop-y-preserved
loop-y-preserved c = adds_behind _ _ (omega arith) c.loop-y.invariant (c.insert.ensures (omega arith))

pub returns : goal.returns
returns c = let l : (c.loop-y.y ≤ c.args.x + c.args.count) = c.loop-y.auto.y-end (omega arith) in let e : c.loop-y.y - c.args.x ≡ c.args.count = omega arith in rw (← e) c.loop-y.invariant
