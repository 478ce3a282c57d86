-- The table of slots, as it is filled.
use Rattle.std.specs.Prelude.{ℕ, zero, suc, set}
use Rattle.rules.specs.Machine.{Slot, Env}
use Rattle.records.specs.Slots.{Table, of_slot}

-- The table with the slot of variable x set.
unfoldable pub slot_placed : Table → ℕ → Slot → Table
slot_placed slots x w = set slots x (of_slot w)

-- The table with the slots of the count variables from x on set to where they live.
unfoldable pub slots_placed : Env → ℕ → ℕ → Table → Table
slots_placed ρ x zero slots = slots
slots_placed ρ x (suc count) slots = slots_placed ρ (suc x) count (slot_placed slots x (ρ x))
