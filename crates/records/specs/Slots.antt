-- The table of slots: for each variable, where it lives.
use Rattle.std.specs.Prelude.{List, get_or}
use Rattle.rules.specs.Machine as machine
use Rattle.rules.specs.Machine.{Env}
use Rattle.records.specs.declared.slot.Slot.{Slot}

abbrev pub Table : Type 0
Table = List Slot

-- A slot of the code as the rules' own, and back.
abbrev pub as_slot : Slot → machine.Slot
as_slot s = record { base = s.base; cells = s.cells; width = s.width; hidden = s.hidden }

abbrev pub of_slot : machine.Slot → Slot
of_slot s = record { base = s.base; cells = s.cells; width = s.width; hidden = s.hidden }

-- Where variable x lives; what is past the table has no cells.
abbrev pub slot_of : Table → Env
slot_of slots x = as_slot (get_or slots x (of_slot machine.no_slot))
