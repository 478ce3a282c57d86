-- The table of slots, row by row: a row that is set reads as its slot, and every other row as before.
use Prim.Native.Nat.{ℕ, zero, suc, ◌+◌, ◌-◌, ◌≤◌, ◌<◌}
use mathlib.Core.Path.{◌≡◌, refl, sym, ap, ◌∙◌}
use mathlib.Core.List.{List, [], ◌∷◌}
use mathlib.Core.Logic.{◌⊎◌, inl, inr, ⊎_elim, dite}
use native.Mathlib.Omega.{arith}
use native.Mathlib.Numerals.{add-one}
use native.Mathlib.Nat.{add-zero, zero-add, add_assoc}
use native.Mathlib.Decide.{ℕ_discrete}
use lib.ListN.{length, get_or, take, drop, length-set}
use lib.Seq.{get_or-set_same, get_or-set_other}
use Rattle.rules.specs.Image.{Header, Parts, Variable, is_secret}
use Rattle.rules.specs.Walk.{type_of}
use Rattle.rules.specs.Machine.{Slot, no_slot, Env}
use Rattle.rules.specs.Run.{room_of, room_before, home, store_slots, sum}
use Rattle.records.specs.Slots.{Table, as_slot, of_slot, slot_of}
use Rattle.entry.specs.Slots.{slot_placed, slots_placed}
use Rattle.entry.proofs.Lengths.{Summed}
use Rattle.entry.proofs.Rooms.{room_next}
use Rattle.laws.specs.Cells.{room_grows}

-- ---- the loops that set rows

module _ (ρ : Env) (n j y : ℕ) (slots : Table) where
  pub placed_more : j < n → (w : Slot) → w ≡ ρ y → (slots' : Table) → slots' ≡ slot_placed slots y w → (y' : ℕ) → y' ≡ y + 1
      → slots_placed ρ y (n - j) slots ≡ slots_placed ρ y' (n - (j + 1)) slots'
  unfolding slots_placed
  placed_more h w ew slots' e y' on = let k : n - j ≡ suc (n - (j + 1)) = omega arith in rw (k, e, ew, on, add-one y)

  pub placed_end : n ≤ j → slots_placed ρ y (n - j) slots ≡ slots
  unfolding slots_placed
  placed_end h = let k : n - j ≡ 0 = omega arith in rw k

pub placed_length : (slots : Table) (x : ℕ) (w : Slot) → length (slot_placed slots x w) ≡ length slots
unfolding slot_placed
placed_length slots x w = simp length-set

pub all_length : (ρ : Env) (x count : ℕ) (slots : Table) → length (slots_placed ρ x count slots) ≡ length slots
unfolding slots_placed
all_length ρ x zero slots = refl
all_length ρ x (suc count) slots = all_length ρ (suc x) count (slot_placed slots x (ρ x)) ∙ placed_length slots x (ρ x)

-- ---- what the rows say

module _ (slots : Table) (x : ℕ) (w : Slot) where
  pub row_here : x < length slots → slot_of (slot_placed slots x w) x ≡ w
  unfolding slot_placed
  row_here h = ap as_slot (get_or-set_same slots x (of_slot w) (of_slot no_slot) h)

  pub row_other : (y : ℕ) → (y < x) ⊎ (x < y) → slot_of (slot_placed slots x w) y ≡ slot_of slots y
  unfolding slot_placed
  row_other y apart = ap as_slot (get_or-set_other slots x y (of_slot w) (of_slot no_slot) (λ e. ⊎_elim (λ u. omega arith) (λ u. omega arith) apart))

-- A row outside those that are set reads as before.
pub rows_other : (ρ : Env) (x count : ℕ) (slots : Table) (y : ℕ) → (y < x) ⊎ (x + count ≤ y) → slot_of (slots_placed ρ x count slots) y ≡ slot_of slots y
unfolding slots_placed
rows_other ρ x zero slots y apart = refl
rows_other ρ x (suc count) slots y apart =
    rows_other ρ (suc x) count (slot_placed slots x (ρ x)) y (⊎_elim (λ u. inl (omega arith)) (λ u. inr (omega arith)) apart)
    ∙ row_other slots x (ρ x) y (⊎_elim (λ u. inl u) (λ u. inr (omega arith)) apart)

-- A row that is set reads as where its variable lives.
pub rows_at : (ρ : Env) (x count : ℕ) (slots : Table) → x + count ≤ length slots → (y : ℕ) → x ≤ y → y < x + count → slot_of (slots_placed ρ x count slots) y ≡ ρ y
unfolding slots_placed
rows_at ρ x zero slots h y l m = absurd (omega arith)
rows_at ρ x (suc count) slots h y l m = dite (ℕ_discrete y x)
    (λ e. rw e (rows_other ρ (suc x) count (slot_placed slots x (ρ x)) x (inl (omega arith)) ∙ row_here slots x (ρ x) (omega arith)))
    (λ ne. rows_at ρ (suc x) count (slot_placed slots x (ρ x)) (rw placed_length (omega arith)) y (omega arith) (omega arith))

-- ---- the store's rows

pub sum-split : (ns : List ℕ) (j : ℕ) → sum ns ≡ sum (take j ns) + sum (drop j ns)
unfolding sum
sum-split ns zero = sym (zero-add _)
sum-split [] (suc j) = refl
sum-split (n ∷ ns) (suc j) = ap (λ x. n + x) (sum-split ns j) ∙ sym (add_assoc n _ _)

pub store_slot : (s : Parts) (y i : ℕ) (ns : List ℕ) (j : ℕ) → j < length ns
    → get_or (store_slots s y i ns) j no_slot ≡ record { base = i + sum (take j ns); cells = get_or ns j 0; width = (type_of s (y + j)).size; hidden = is_secret (type_of s (y + j)) }
unfolding store_slots sum
store_slot s y i [] j h = absurd (omega arith)
store_slot s y i (n ∷ ns) zero h = rw (add-zero i, add-zero y)
store_slot s y i (n ∷ ns) (suc j) h =
    let e : suc y + j ≡ y + suc j = omega arith in
    rw (← e, ← add_assoc i n (sum (take j ns))) (store_slot s (suc y) (i + n) ns j (omega arith))

-- A row of parameter j, behind the lengths before it.
pub store_row : (s : Parts) (first : ℕ) (ns : List ℕ) (j total : ℕ) → Summed ns j total → j < length ns → (v : Variable) → v ≡ type_of s (first + j)
    → record { base = total; cells = get_or ns j 0; width = v.size; hidden = is_secret v } ≡ get_or (store_slots s first 0 ns) (first + j - first) no_slot
store_row s first ns j total f h v ev =
    let back : first + j - first ≡ j = omega arith in
    let e : total ≡ 0 + sum (take j ns) = omega (arith, f.sums, sum-split ns j) in
    rw (back, e, ev) (sym (store_slot s first 0 ns j h))

-- Behind the room of variable x is that of the next one, and below V all of it is within the cells.
pub home-next : (h : Header) (s : Parts) (stored x base cells : ℕ) → base ≡ stored + room_before h s x → cells ≡ room_of h s x → base + cells ≡ stored + room_before h s (x + 1)
home-next h s stored x base cells eb ec = omega (arith, room_next h s x)

pub home-within : (h : Header) (s : Parts) (stored x base cells : ℕ) → base ≡ stored + room_before h s x → cells ≡ room_of h s x → x < h.variables
    → stored + room_before h s h.variables ≤ 4096 → base + cells ≤ 4096
home-within h s stored x base cells eb ec l m = omega (arith, room_grows h s x h.variables l)

-- A row of variable x at home.
pub home-row : (h : Header) (s : Parts) (stored x base cells : ℕ) (v : Variable) → base ≡ stored + room_before h s x → cells ≡ room_of h s x → v ≡ type_of s x
    → record { base = base; cells = cells; width = v.size; hidden = is_secret v } ≡ home h s stored x
unfolding home
home-row h s stored x base cells v eb ec ev = rw (eb, ec, ev)
