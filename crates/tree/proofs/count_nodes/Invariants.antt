use Rattle.tree.specs.Turns.{Turning}
use Rattle.tree.specs.Tally.{counted_nodes}
use Rattle.tree.proofs.count_nodes.Given as goal

abbrev pub invariant-loop-n : goal.invariant-loop-n
invariant-loop-n l = Turning (counted_nodes l.nodes) l.count l.initial.counts l.n l.counts
