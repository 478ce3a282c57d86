use Rattle.std.proofs.Common.{◌≡◌, ◌+◌, ◌-◌}
use Rattle.rules.specs.Run.{room_before, home}
use Rattle.records.specs.Records.{as_header}
use Rattle.records.specs.Parts.{as_parts}
use Rattle.entry.specs.Cells.{Walked}
use Rattle.entry.specs.Slots.{slots_placed}
use Rattle.entry.proofs.cells.place_locals.Given as goal

abbrev pub invariant-loop-x : goal.invariant-loop-x
invariant-loop-x l = record {
  walked : Walked (as_header l.h) (as_parts l.parts) l.owner l.x;
  next : l.base ≡ l.stored + room_before (as_header l.h) (as_parts l.parts) l.x;
  rest : slots_placed (home (as_header l.h) (as_parts l.parts) l.stored) 0 l.h.variables l.initial.slots ≡ slots_placed (home (as_header l.h) (as_parts l.parts) l.stored) l.x (l.h.variables - l.x) l.slots;
}
