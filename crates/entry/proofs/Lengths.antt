-- A loop over a list of lengths: those before place j fit their parameters and are summed, the others are still to come.
use Prim.Native.Nat.{ℕ, suc, ◌+◌, ◌*◌, ◌≤◌, ◌<◌}
use mathlib.Core.Path.{◌≡◌, sym, ◌∙◌}
use mathlib.Core.List.{List}
use mathlib.Core.Bool.{Bool, true, false, cond}
use native.Mathlib.Omega.{arith}
use native.Mathlib.Numerals.{add-one}
use native.Mathlib.Nat.{add-zero, zero-add, add_assoc}
use borrow.Author.Tests.{leb-true, eqb-true}
use lib.Dec.{eqb, leb}
use lib.ListN.{length, get_or, drop}
use lib.Seq.{drop-cons, drop-length}
use Rattle.rules.specs.Image.{Parts, is_array}
use Rattle.rules.specs.Walk.{type_of}
use Rattle.rules.specs.Run.{lengths_fit, sum}

-- The test of one length.
abbrev pub fits_one : Parts → ℕ → ℕ → Bool
fits_one s y n = cond (is_array (type_of s y)) (leb n 4096) (eqb n 1)

pub fits_small : (s : Parts) (y n : ℕ) → fits_one s y n ≡ true → n ≤ 4096
fits_small s y n = go (is_array (type_of s y))
  where
    go : (b : Bool) → cond b (leb n 4096) (eqb n 1) ≡ true → n ≤ 4096
    go true t = leb-true n 4096 t
    go false t = omega (arith, eqb-true n 1 t)

-- The lengths before j sum to total.
pub record Summed (lengths : List ℕ) (j total : ℕ) : Type 0 where
  pub upto : j ≤ length lengths
  pub sums : sum lengths ≡ total + sum (drop j lengths)

module _ (lengths : List ℕ) where
  pub summed_none : Summed lengths 0 0
  summed_none = record { upto = omega arith; sums = sym (zero-add _) }

  pub summed_more : (j total : ℕ) → Summed lengths j total → j < length lengths → Summed lengths (j + 1) (total + get_or lengths j 0)
  unfolding sum
  summed_more j total f h = record {
    upto = omega arith;
    sums = f.sums ∙ rw (add-one, drop-cons lengths j 0 h) (sym (add_assoc total (get_or lengths j 0) _));
  }

  pub summed_all : (j total : ℕ) → Summed lengths j total → length lengths ≤ j → sum lengths ≡ total
  unfolding sum
  summed_all j total f h =
      let e : j ≡ length lengths = omega (arith, f.upto) in
      f.sums ∙ rw (e, drop-length lengths) (add-zero total)

-- The lengths before j fit their parameters, and each is at most 4,096.
pub record Fitted (s : Parts) (first : ℕ) (lengths : List ℕ) (j total : ℕ) : Type 0 where
  pub summed : Summed lengths j total
  pub small : total ≤ j * 4096
  pub fits : lengths_fit s first lengths ≡ lengths_fit s (first + j) (drop j lengths)

module _ (s : Parts) (first : ℕ) (lengths : List ℕ) where
  pub fitted_none : Fitted s first lengths 0 0
  fitted_none = record { summed = summed_none lengths; small = omega arith; fits = rw add-zero }

  module _ (j total : ℕ) (f : Fitted s first lengths j total) where
    pub fitted-more : j < length lengths → fits_one s (first + j) (get_or lengths j 0) ≡ true → Fitted s first lengths (j + 1) (total + get_or lengths j 0)
    unfolding lengths_fit
    fitted-more h t = record {
      summed = summed_more lengths j total f.summed h;
      small = omega (arith, f.small, fits_small s (first + j) (get_or lengths j 0) t);
      fits = f.fits ∙ (let on : first + (j + 1) ≡ suc (first + j) = omega arith in rw (on, add-one, drop-cons lengths j 0 h, t));
    }

    pub fitted-stop : j < length lengths → fits_one s (first + j) (get_or lengths j 0) ≡ false → lengths_fit s first lengths ≡ false
    unfolding lengths_fit
    fitted-stop h t = f.fits ∙ rw (drop-cons lengths j 0 h, t)

    pub fitted-all : length lengths ≤ j → lengths_fit s first lengths ≡ true
    unfolding lengths_fit
    fitted-all h =
        let e : j ≡ length lengths = omega (arith, f.summed.upto) in
        f.fits ∙ rw (e, drop-length lengths)
