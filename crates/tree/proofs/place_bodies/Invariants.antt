use Rattle.tree.specs.Turns.{Turning}
use Rattle.tree.specs.Places.{bodies_placed}
use Rattle.tree.proofs.place_bodies.Given as goal

abbrev pub invariant-loop-p : goal.invariant-loop-p
invariant-loop-p l = Turning (bodies_placed l.procedures) l.count l.initial.places l.p l.places
