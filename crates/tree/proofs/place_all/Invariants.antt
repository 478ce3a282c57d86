use Rattle.std.specs.List.{All}
use Prim.Native.Nat.{◌+◌}
use Rattle.tree.specs.Turns.{Turning}
use Rattle.tree.specs.Places.{all_placed, AtMost}
use Rattle.tree.proofs.place_all.Given as goal

abbrev pub invariant-loop-n : goal.invariant-loop-n
invariant-loop-n l = Turning (all_placed l.nodes) l.count l.initial.places l.n l.places × All (AtMost (l.n + 1)) l.places
