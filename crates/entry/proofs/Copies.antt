-- What a loop that copies from the front keeps, and what it leaves at its end. Assumes nothing.
use mathlib.Core.Path.{◌≡◌, refl, ap, ◌∙◌}
use mathlib.Core.List.{List, ◌++◌, append-nil}
use Prim.Native.Nat.{ℕ, suc, ◌+◌, ◌≤◌, ◌<◌}
use native.Mathlib.Omega.{arith}
use native.Mathlib.Numerals.{add-one}
use native.Mathlib.Nat.{zero-add}
use lib.ListN.{length, take, drop, set, get_or, length-set}
use lib.Seq.{drop-length, take-length, paste-suc}

-- d with its first i elements those of s
pub record Copied (s d l : List ℕ) (i : ℕ) : Type 0 where
  pub long : length l ≡ length d
  pub upto : i ≤ length s
  pub is : l ≡ take i s ++ drop i d

module _ (s d : List ℕ) where
  pub copied_none : Copied s d d 0
  copied_none = record { long = refl; upto = omega arith; is = refl }

  pub copied_more : (l : List ℕ) (i : ℕ) → Copied s d l i → i < length s → i < length d → Copied s d (set l i (get_or s i 0)) (i + 1)
  copied_more l i f h k =
      record {
        long = length-set l i (get_or s i 0) ∙ f.long;
        upto = omega arith;
        is = ap (λ (x : List ℕ). set x i (get_or s i 0)) f.is
            ∙ (let e : 0 + i ≡ i = zero-add i in let e' : 0 + suc i ≡ suc i = zero-add (suc i) in
            rw (add-one) (rw (e, e') at (paste-suc d 0 s i 0 (omega arith) h)));
      }

  -- at the end of s
  pub copied_in : (l : List ℕ) (i : ℕ) → Copied s d l i → length s ≤ i → l ≡ s ++ drop (length s) d
  copied_in l i f h =
      let e : i ≡ length s = omega (arith, f.upto) in
      f.is ∙ rw (e, take-length s)

  -- at the end of d
  pub copied_out : (l : List ℕ) (i : ℕ) → Copied s d l i → i ≡ length d → l ≡ take (length d) s
  copied_out l i f e = f.is ∙ rw (e, drop-length d) (append-nil _)
