use Rattle.std.proofs.Common.{◌≡◌, ◌*◌, ◌≤◌}
use Rattle.rules.specs.Run.{room_before}
use Rattle.records.specs.Records.{as_header}
use Rattle.records.specs.Parts.{as_parts}
use Rattle.entry.specs.Cells.{Walked}
use Rattle.entry.proofs.cells.room.Given as goal

abbrev pub invariant-loop-x : goal.invariant-loop-x
invariant-loop-x l = record {
  walked : Walked (as_header l.h) (as_parts l.parts) l.owner l.x;
  summed : l.total ≡ room_before (as_header l.h) (as_parts l.parts) l.x;
  small : l.total ≤ l.x * 65535;
}
