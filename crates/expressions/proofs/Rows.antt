-- A slot that is written: it is the lent one, and every other slot is as before.
use Prim.Native.Nat.{ℕ, ◌<◌}
use mathlib.Core.Path.{◌≡◌, ap, ◌∙◌}
use lib.ListN.{length, set}
use lib.Seq.{get_or-set_same}
use Rattle.rules.specs.Image.{Header, Parts}
use Rattle.rules.specs.Machine as machine
use Rattle.rules.specs.Machine.{no_slot, lent}
use Rattle.records.specs.declared.slot.Slot.{Slot}
use Rattle.records.specs.Slots.{Table, as_slot, of_slot}
use Rattle.records.specs.declared.LValue.{LValue}
use Rattle.records.specs.declared.LValue.TheVariants.{Variable}
use Rattle.records.specs.Cases.{place_of}
use Rattle.expressions.proofs.Targets.{Entry}
use Rattle.expressions.specs.Relations.{slot_of, root_of}

-- What an L-value lends, as the slot that is written for it.
module _ (slots slots' : Table) (y i : ℕ) (h : Header) (s : Parts) (l : LValue) (room : y < length slots)
    (own : Slot) (own_is : as_slot own ≡ slot_of slots (root_of l)) where
  written : (w : Slot) → slots' ≡ set slots y w → slot_of slots' y ≡ as_slot w
  written w e = ap (λ (z : Table). slot_of z y) e ∙ ap as_slot (get_or-set_same slots y w (of_slot no_slot) room)

  pub lent-whole : (n x : ℕ) → l ≡ Variable n x → slots' ≡ set slots y own → slot_of slots' y ≡ lent (slot_of slots) (place_of h s l) i
  unfolding lent
  lent-whole n x e w = written own w ∙ own_is ∙ rw e

  pub lent-entry : {n x j : ℕ} → Entry l n x j → (k : ℕ) → k ≡ i → slots' ≡ set slots y (record own { base = k; cells = 1 })
      → slot_of slots' y ≡ lent (slot_of slots) (place_of h s l) i
  unfolding lent
  lent-entry q k e w =
      written (record own { base = k; cells = 1 }) w
      ∙ ap (λ (o : machine.Slot). record o { base = k; cells = 1 }) own_is ∙ rw (q.place h s, q.root, e)
