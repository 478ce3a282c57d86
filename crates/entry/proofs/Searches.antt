-- Where a search ends, and a search a stretch of places at a time: a stretch that passes is skipped, and one with a place that fails
-- ends the search.
use Prim.Native.Nat.{ℕ, zero, suc, ◌+◌, ◌-◌, ◌≤◌, ◌<◌}
use mathlib.Core.Path.{◌≡◌, refl, sym, ap, ◌∙◌, subst}
use mathlib.Core.Bool.{Bool, true, false, cond}
use mathlib.Core.List.{List}
use mathlib.Core.Logic.{dite}
use native.Mathlib.Omega.{arith}
use native.Mathlib.Decide.{dec_lt}
use borrow.Author.Tests.{eqb-true, eqb-false}
use lib.Dec.{eqb}
use lib.ListN.{length, get_or}
use Rattle.std.specs.Prelude.{Option, Some, None}
use Rattle.std.specs.Option.{MatchOption, option_map}
use Rattle.std.specs.List.{between}
use Rattle.std.proofs.lemmas.List.Edits.{length-between, get_or-between}
use Rattle.rules.specs.Form.{search}
use Rattle.laws.specs.Verdicts.{is_true, is_false, search-from, search-to, search-before, search-found}
use Rattle.tree.specs.Search.{found, found-by}

-- The places from i to s passed, and s failed or is the end.
pub record Ended (p : ℕ → Bool) (i n s : ℕ) : Type 0 where
  pub low : i ≤ s
  pub high : s ≤ n
  pub passed : (k : ℕ) → i ≤ k → k < s → p k ≡ true
  pub fails : s < n → p s ≡ false

pub search-ended : (p : ℕ → Bool) (i count : ℕ) → Ended p i (i + count) (search p i count)
search-ended p i count = record {
  low = search-from p i count;
  high = search-to p i count;
  passed = λ k l m. is_true (p k) (search-before p i count k l m);
  fails = λ h. is_false (p (search p i count)) (search-found p i count h);
}

-- Where a second test passes whatever a first one does, its search goes on from where the first one's ended.
pub search-further : (p q : ℕ → Bool) → ((j : ℕ) → p j ≡ true → q j ≡ true) → (i count : ℕ)
    → search q i count ≡ search q (search p i count) (i + count - search p i count)
unfolding search
search-further p q more i zero = let e : i + 0 - i ≡ 0 = omega arith in rw e
search-further p q more i (suc count) = go (p i) refl (search-further p q more (suc i) count)
  where
    go : (t : Bool) → p i ≡ t → search q (suc i) count ≡ search q (search p (suc i) count) (suc i + count - search p (suc i) count)
        → cond (q i) (search q (suc i) count) i ≡ search q (cond t (search p (suc i) count) i) (i + suc count - cond t (search p (suc i) count) i)
    go true e rest =
        let on : i + suc count ≡ suc i + count = omega arith in
        rw (more i e, on) rest
    go false e rest = let all : i + suc count - i ≡ suc count = omega arith in rw all

-- What is known of the first place from i on and below n that fails, if there is one.
abbrev FirstFailing : (ℕ → Bool) → ℕ → ℕ → Option ℕ → Type 0
FirstFailing p i n r = MatchOption r ((k : ℕ) → i ≤ k → k < n → p k ≡ true) (λ j. (i ≤ j) × (j < n) × (p j ≡ false) × ((k : ℕ) → i ≤ k → k < j → p k ≡ true))

found_says : (p : ℕ → Bool) (i count : ℕ) → FirstFailing p i (i + count) (found p i count)
unfolding found
found_says p i count = go (eqb (search p i count) (i + count)) refl (search-ended p i count)
  where
    go : (b : Bool) → eqb (search p i count) (i + count) ≡ b → Ended p i (i + count) (search p i count) → FirstFailing p i (i + count) (cond b None (Some (search p i count)))
    go true e r = let end : search p i count ≡ i + count = eqb-true _ _ e in λ k l m. r.passed k l (omega arith)
    go false e r =
        let below : search p i count < i + count = omega (arith, r.high, eqb-false _ _ e) in
        (r.low, below, r.fails below, r.passed)

pub found-below : (p : ℕ → Bool) (n j : ℕ) → Some j ≡ found p 0 n → j < n
found-below p n j e = let says : FirstFailing p 0 (0 + n) (Some j) = subst (λ r. FirstFailing p 0 (0 + n) r) (sym e) (found_says p 0 n) in omega (arith, says.1)

module _ (p : ℕ → Bool) (i a b : ℕ) where
  -- A stretch in which every place passes is skipped.
  pub found-skip : None ≡ found p i a → found p i (a + b) ≡ found p (i + a) b
  found-skip e = sym (found-by p i (a + b) (i + a + b) (omega arith) (found p (i + a) b) (go (found p (i + a) b) (found_says p (i + a) b)))
    where
      before : (k : ℕ) → i ≤ k → k < i + a → p k ≡ true
      before = subst (λ r. FirstFailing p i (i + a) r) (sym e) (found_says p i a)

      go : (r : Option ℕ) → FirstFailing p (i + a) (i + a + b) r → FirstFailing p i (i + a + b) r
      go None h = λ k l m. dite (dec_lt k (i + a)) (λ below. before k l below) (λ past. h k (omega arith) m)
      go (Some j) h = (omega (arith, h.0), h.1, h.2, λ k l m. dite (dec_lt k (i + a)) (λ below. before k l below) (λ past. h.3 k (omega arith) m))

  -- A stretch with a place that fails ends the search.
  pub found-ends : (j : ℕ) → Some j ≡ found p i a → Some j ≡ found p i (a + b)
  found-ends j e =
      let says : FirstFailing p i (i + a) (Some j) = subst (λ r. FirstFailing p i (i + a) r) (sym e) (found_says p i a) in
      found-by p i (a + b) (i + (a + b)) refl (Some j) (says.0, omega (arith, says.1), says.2, says.3)

-- A search of a part of a list is the search of the list there.
module _ (t : ℕ → Bool) (xs : List ℕ) (from end : ℕ) (l : from ≤ end) (m : end ≤ length xs) where
  there : (k : ℕ) → from ≤ k → k < end → t (get_or (between from end xs) (k - from) 0) ≡ t (get_or xs k 0)
  there k low high =
      let back : from + (k - from) ≡ k = omega arith in
      ap t (get_or-between xs from end (k - from) 0 (omega arith) ∙ ap (λ i. get_or xs i 0) back)

  pub found-part : (r : Option ℕ) → r ≡ found (λ k. t (get_or (between from end xs) k 0)) 0 (length (between from end xs))
      → option_map (λ j. from + j) r ≡ found (λ k. t (get_or xs k 0)) from (end - from)
  found-part r e =
      found-by (λ k. t (get_or xs k 0)) from (end - from) end (omega arith) (option_map (λ j. from + j) r)
      (go r (subst (λ r. FirstFailing (λ k. t (get_or (between from end xs) k 0)) 0 (0 + length (between from end xs)) r) (sym e) (found_says _ 0 (length (between from end xs)))))
    where
      long : length (between from end xs) ≡ end - from
      long = length-between xs from end m

      go : (r : Option ℕ) → FirstFailing (λ k. t (get_or (between from end xs) k 0)) 0 (0 + length (between from end xs)) r → FirstFailing (λ k. t (get_or xs k 0)) from end (option_map (λ j. from + j) r)
      go None h = λ k low high. sym (there k low high) ∙ h (k - from) (omega arith) (omega (arith, long))
      go (Some j) h =
          let high : from + j < end = omega (arith, h.1, long) in
          let back : from + j - from ≡ j = omega arith in
          let here : t (get_or (between from end xs) j 0) ≡ t (get_or xs (from + j) 0) = rw back at (there (from + j) (omega arith) high) in
          (omega arith, high, sym here ∙ h.2, λ k low below. sym (there k low (omega arith)) ∙ h.3 (k - from) (omega arith) (omega arith))
