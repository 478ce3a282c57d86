use Rattle.tree.specs.Turns.{Turning}
use Rattle.tree.specs.Tally.{counted_bodies}
use Rattle.tree.proofs.count_bodies.Given as goal

abbrev pub invariant-loop-p : goal.invariant-loop-p
invariant-loop-p l = Turning (counted_bodies l.procedures) l.count l.initial.counts l.p l.counts
