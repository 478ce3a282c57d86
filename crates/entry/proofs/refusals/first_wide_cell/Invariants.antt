use Rattle.records.specs.Parts.{as_parts}
use Rattle.entry.proofs.Wide.{Narrow}
use Rattle.entry.proofs.refusals.first_wide_cell.Given as goal

abbrev pub invariant-loop-j : goal.invariant-loop-j
invariant-loop-j l = Narrow (as_parts l.parts) l.first l.lengths l.store l.j l.from
