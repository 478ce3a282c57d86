use Rattle.records.specs.Parts.{as_parts}
use Rattle.entry.proofs.Lengths.{Fitted}
use Rattle.entry.proofs.refusals.lengths_fit.Given as goal

abbrev pub invariant-loop-j : goal.invariant-loop-j
invariant-loop-j l = Fitted (as_parts l.parts) l.first l.lengths l.j l.total
