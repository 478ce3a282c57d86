-- Where the names of the run live once both kinds of rows are set: the last procedure's where its execution starts, every other local at home.
use Prim.Native.Nat.{ℕ, suc, ◌+◌, ◌-◌, ◌≤◌, ◌<◌}
use mathlib.Core.Path.{◌≡◌, refl, sym, ap, ◌∙◌}
use mathlib.Core.Bool.{Bool}
use mathlib.Core.List.{List, [], ◌∷◌}
use mathlib.Core.Logic.{◌⊎◌, inr, dite}
use native.Mathlib.Omega.{arith}
use native.Mathlib.Decide.{dec_lt}
use borrow.Author.Tests.{lt-ltb, le-ltb}
use lib.ListN.{length, get_or, take}
use lib.Seq.{drop-cons}
use Rattle.rules.specs.Words.{Binary}
use Rattle.rules.specs.Image.{Header, Parts}
use Rattle.rules.specs.Machine.{Slot, no_slot, Env}
use Rattle.rules.specs.Run.{home, store_slots, env_of, last_of, sum}
use Rattle.records.specs.Slots.{Table, slot_of}
use Rattle.entry.specs.Refusals.{Called}
use Rattle.entry.specs.Slots.{slots_placed}
use Rattle.entry.proofs.Rows.{all_length, rows_at, rows_other, store_slot, sum-split}
use Rattle.laws.specs.Records.{Placed, Typed, Sound}
use Rattle.laws.specs.Cells.{room_grows}
use Rattle.entry.proofs.Outcomes.{Entered}

store_count : (s : Parts) (y i : ℕ) (ns : List ℕ) → length (store_slots s y i ns) ≡ length ns
unfolding store_slots
store_count s y i [] = refl
store_count s y i (n ∷ ns) = ap suc (store_count s (suc y) (i + n) ns)

sum-within : (ns : List ℕ) (j : ℕ) → j < length ns → sum (take j ns) + get_or ns j 0 ≤ sum ns
unfolding sum
sum-within ns j l = omega (arith, sum-split ns j, ap sum (drop-cons ns j 0 l))

-- A slot of cells among the 4,096, of at most a word each.
abbrev pub Good : Slot → Type 0
Good x = (0 < x.width) × (x.width ≤ 64) × (x.base + x.cells ≤ 4096)

-- What an image has whose header, procedures and variables are accepted, whatever its nodes are.
pub record Formed (h : Header) (s : Parts) : Type 0 where
  pub some : 1 ≤ h.procedures
  pub narrow : h.variables ≤ 1024
  pub procedure : (p : ℕ) → p < h.procedures → Placed h s p
  pub variable : (x : ℕ) → x < h.variables → Typed h s x

pub formed : {forbidden : Binary → Bool} {h : Header} {s : Parts} → Sound forbidden h s → Formed h s
formed f = record { some = f.some; narrow = f.narrow; procedure = f.procedure; variable = f.variable }

module _ {h : Header} {s : Parts} (f : Formed h s) where
  -- The last procedure can be called.
  pub called : Called h s
  called =
      let q = f.procedure (h.procedures - 1) (omega (arith, f.some)) in
      record { some = f.some; few = q.few; inside = omega (arith, q.end, q.parameters, f.narrow) }

  -- The home of every local is good.
  pub home-good : {works : ℕ} {lengths store : List ℕ} → Entered h s works lengths store → (y : ℕ) → y < h.variables → Good (home h s (length store) y)
  unfolding home
  home-good e y l = ((f.variable y l).some, (f.variable y l).word, omega (arith, room_grows h s y h.variables l, e.room))

  -- ---- both kinds of rows

  module _ {works : ℕ} {lengths store : List ℕ} (e : Entered h s works lengths store)
      (slots₀ slots₁ slots₂ : Table) (long : length slots₀ ≡ 1024)
      (at_home : slots₁ ≡ slots_placed (home h s (length store)) 0 h.variables slots₀)
      (at_store : slots₂ ≡ slots_placed (λ y. get_or (store_slots s (last_of h s).first 0 lengths) (y - (last_of h s).first) no_slot) (last_of h s).first (length lengths) slots₁) where
    -- Where the run's last procedure starts.
    abbrev pub starting : Env
    starting = env_of (home h s (length store)) (last_of h s) (store_slots s (last_of h s).first 0 lengths)

    last : Placed h s (h.procedures - 1)
    last = f.procedure (h.procedures - 1) (omega (arith, f.some))

    long₁ : length slots₁ ≡ 1024
    long₁ = rw (at_home, all_length) long

    pub rows_home : (y : ℕ) → y < h.variables → (y < (last_of h s).first) ⊎ ((last_of h s).first + length lengths ≤ y) → slot_of slots₂ y ≡ home h s (length store) y
    rows_home y l apart =
        ap (λ t. slot_of t y) at_store
        ∙ rows_other _ (last_of h s).first (length lengths) slots₁ y apart
        ∙ ap (λ t. slot_of t y) at_home
        ∙ rows_at _ 0 h.variables slots₀ (omega (arith, f.narrow)) y (omega arith) (omega arith)

    pub rows_store : (y : ℕ) → (last_of h s).first ≤ y → y < (last_of h s).first + length lengths
        → slot_of slots₂ y ≡ get_or (store_slots s (last_of h s).first 0 lengths) (y - (last_of h s).first) no_slot
    rows_store y l m =
        ap (λ t. slot_of t y) at_store
        ∙ rows_at _ (last_of h s).first (length lengths) slots₁ (omega (arith, f.narrow, last, e.fitting.counted, long₁)) y l m

    -- Every name of the last procedure lives where its execution starts with it.
    pub rows_starting : (y : ℕ) → (last_of h s).first ≤ y → y < (last_of h s).first + (last_of h s).count → slot_of slots₂ y ≡ starting y
    unfolding env_of
    rows_starting y l m = dite (dec_lt y ((last_of h s).first + length lengths))
        (λ k. rows_store y l k ∙ sym (rw (
          le-ltb y (last_of h s).first l,
          store_count s (last_of h s).first 0 lengths,
          lt-ltb (y - (last_of h s).first) (length lengths) (omega arith),
        )))
        (λ k. rows_home y (omega (arith, last)) (inr (omega arith)) ∙ sym (rw (
          le-ltb y (last_of h s).first l,
          store_count s (last_of h s).first 0 lengths,
          le-ltb (y - (last_of h s).first) (length lengths) (omega arith),
          lt-ltb y ((last_of h s).first + (last_of h s).count) m,
        )))

    -- ---- the cells of every row are among the 4,096, and their size is a word's

    store_good : (y : ℕ) → (last_of h s).first ≤ y → y < (last_of h s).first + length lengths → Good (get_or (store_slots s (last_of h s).first 0 lengths) (y - (last_of h s).first) no_slot)
    store_good y l m =
        let j : y - (last_of h s).first < length lengths = omega arith in
        let back : (last_of h s).first + (y - (last_of h s).first) ≡ y = omega arith in
        let z = f.variable y (omega (arith, last, e.fitting.counted)) in
        rw (store_slot s (last_of h s).first 0 lengths (y - (last_of h s).first) j, back)
        (z.some, z.word, omega (arith, sum-within lengths (y - (last_of h s).first) j, e.fitting.whole, e.room))

    pub starting-good : (y : ℕ) → (last_of h s).first ≤ y → y < (last_of h s).first + (last_of h s).count → Good (starting y)
    starting-good y l m = dite (dec_lt y ((last_of h s).first + length lengths))
        (λ k. rw (sym (rows_store y l k) ∙ rows_starting y l m) at (store_good y l k))
        (λ k. rw (sym (rows_home y (omega (arith, last)) (inr (omega arith))) ∙ rows_starting y l m) at (home-good e y (omega (arith, last))))
