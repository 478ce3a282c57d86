-- What lengths that fit say of the store, and the verdicts of 20 to 22 by what was read.
use Prim.Native.Nat.{ℕ, suc, ◌+◌, ◌*◌, ◌^◌, ◌≤◌}
use mathlib.Core.Path.{◌≡◌, sym, ap, ◌∙◌}
use mathlib.Core.List.{List, [], ◌∷◌}
use mathlib.Core.Bool.{Bool, true, not, ◌&&◌}
use native.Mathlib.Omega.{arith}
use borrow.Author.Tests.{eqb-true}
use lib.Dec.{eqb, ltb, lit<}
use lib.ListN.{length, get_or}
use Rattle.rules.specs.Image.{Header, Parts, Procedure}
use Rattle.std.specs.Prelude.{Option, Some, None}
use Rattle.std.proofs.lemmas.Bool.{and_parts}
use Rattle.rules.specs.Form.{refused, accepted, given}
use Rattle.rules.specs.Run.{lengths_fit, sum, per_cell, last_of, room_before, lengths_refusal, cell_refusal, room_refusal}
use Rattle.tree.specs.Search.{found, lowest-is}
use Rattle.laws.specs.Verdicts.{is_true, given_holds}
use Rattle.entry.proofs.Lengths.{fits_one, fits_small}

-- "array over 4,096": the store of lengths that fit is not long.
pub fit_short : (s : Parts) (y : ℕ) (ns : List ℕ) → lengths_fit s y ns ≡ true → sum ns ≤ length ns * 4096
unfolding lengths_fit sum
fit_short s y [] e = omega arith
fit_short s y (n ∷ ns) e =
    let p = and_parts (fits_one s y n) (lengths_fit s (suc y) ns) e in
    omega (arith, fits_small s y n p.0, fit_short s (suc y) ns p.1)

-- The test of 20, and what it says where it holds.
module _ (t : Parts) (q : Procedure) (lengths store : List ℕ) where
  abbrev pub fitting : Bool
  fitting = eqb (length lengths) q.parameters && (lengths_fit t q.first lengths && eqb (sum lengths) (length store))

  pub record Fitting : Type 0 where
    pub counted : length lengths ≡ q.parameters
    pub whole : sum lengths ≡ length store
    pub short : length store ≤ q.parameters * 4096

  pub fitting-says : fitting ≡ true → Fitting
  fitting-says e =
      let p = and_parts (eqb (length lengths) q.parameters) (lengths_fit t q.first lengths && eqb (sum lengths) (length store)) e in
      let r = and_parts (lengths_fit t q.first lengths) (eqb (sum lengths) (length store)) p.1 in
      let n : length lengths ≡ q.parameters = eqb-true _ _ p.0 in
      let w : sum lengths ≡ length store = eqb-true _ _ r.1 in
      record { counted = n; whole = w; short = omega (arith, fit_short t q.first lengths r.0) }

  -- Where 20 is not given, it holds.
  pub passed-says : (fits : Bool) → fits ≡ fitting → accepted ≡ given 20 0 (not fits) → Fitting
  passed-says fits e passed = fitting-says (sym e ∙ is_true fits (given_holds 20 0 fits (lit< tt) (ap (λ v. v.number) (sym passed))))

-- The verdicts of 20 to 22 by the record of the last procedure, as it was read.
module _ (h : Header) (s : Parts) (lengths store : List ℕ) (q : Procedure) (last : q ≡ last_of h s) where
  pub lengths-is : (fits : Bool) → fits ≡ fitting s q lengths store → given 20 0 (not fits) ≡ lengths_refusal h s lengths store
  unfolding lengths_refusal
  lengths-is fits e = rw (e, last)

  module _ (r : Option ℕ) (looked : r ≡ found (λ i. ltb (get_or store i 0) (2 ^ get_or (per_cell (λ v. v.size) s q.first lengths) i 0)) 0 (length store)) where
    pub cell-found : (i : ℕ) → r ≡ Some i → refused 21 i ≡ cell_refusal h s lengths store
    unfolding cell_refusal given
    cell-found i is = lowest-is 21 _ (length store) (Some i) (sym is ∙ rw last at looked)

    pub cell-none : r ≡ None → accepted ≡ cell_refusal h s lengths store
    unfolding cell_refusal given
    cell-none is = lowest-is 21 _ (length store) None (sym is ∙ rw last at looked)

  pub room-is : (room : ℕ) → room ≡ room_before h s h.variables → given 22 0 (ltb 4096 (length store + room)) ≡ room_refusal h s store
  unfolding room_refusal
  room-is room e = rw e
