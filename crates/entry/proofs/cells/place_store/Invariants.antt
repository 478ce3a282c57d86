use Rattle.std.proofs.Common.{◌≡◌, ◌+◌, ◌-◌, length, get_or}
use Rattle.rules.specs.Machine.{no_slot}
use Rattle.rules.specs.Run.{store_slots}
use Rattle.records.specs.Parts.{as_parts}
use Rattle.entry.specs.Slots.{slots_placed}
use Rattle.entry.proofs.Lengths.{Summed}
use Rattle.entry.proofs.cells.place_store.Given as goal

abbrev pub invariant-loop-j : goal.invariant-loop-j
invariant-loop-j l = record {
  summed : Summed l.lengths l.j l.base;
  rest : slots_placed (λ y. get_or (store_slots (as_parts l.parts) l.first 0 l.lengths) (y - l.first) no_slot) l.first (length l.lengths) l.initial.slots
      ≡ slots_placed (λ y. get_or (store_slots (as_parts l.parts) l.first 0 l.lengths) (y - l.first) no_slot) (l.first + l.j) (length l.lengths - l.j) l.slots;
}
