-- A search for the lowest place: what it finds, what it says where it passes all, and that equal tests search alike.
use Rattle.std.specs.Prelude.{◌≡◌, refl, Bool, true, false, cond, eqb, Option, Some, None, unwrap_or, is_some, MatchOption}
use Rattle.std.proofs.Math.Path.{sym}
use Rattle.std.proofs.Common.{ap, ◌∙◌, ⊎_elim}
use Prim.Native.Nat.{ℕ, zero, suc, ◌+◌, ◌-◌, ◌≤◌, ◌<◌}
use native.Mathlib.Omega.{arith}
use borrow.Author.Tests.{ne_eqb, eq-eqb, eqb-true}
use Rattle.std.proofs.lemmas.Bool.{cases_Bool, cases_eq, cond_both}
use Rattle.rules.specs.Form.{given, search, lowest}

-- What a search finds: the lowest place that fails the test, or nothing where it ends behind them all.
unfoldable pub found : (ℕ → Bool) → ℕ → ℕ → Option ℕ
found passes i count = cond (eqb (search passes i count) (i + count)) None (Some (search passes i count))

-- Every place before n passes.
abbrev pub Passed : (ℕ → Bool) → ℕ → ℕ → Type 0
Passed passes i n = (k : ℕ) → i ≤ k → k < n → passes k ≡ true

pub passed-next : (passes : ℕ → Bool) (i n : ℕ) → Passed passes i n → passes n ≡ true → Passed passes i (n + 1)
passed-next passes i n p e k low high = ⊎_elim (λ t. rw t e) (λ f. p k low (omega arith)) (cases_eq k n)

-- A search stops at the lowest place that fails, or behind the last.
stops : (passes : ℕ → Bool) (i count n : ℕ) → i ≤ n → n < i + count → Passed passes i n → passes n ≡ false → search passes i count ≡ n
unfolding search
stops passes i zero n low high p e = absurd (omega arith)
stops passes i (suc count) n low high p e =
    ⊎_elim (λ (t : n ≡ i). let here : passes i ≡ false = rw t at e in rw here (sym t))
    (λ past.
    let passed : passes i ≡ true = p i (omega arith) (omega arith) in
    let later : search passes (suc i) count ≡ n = stops passes (suc i) count n (omega arith) (omega arith) (λ k l m. p k (omega arith) m) e in
    rw (passed, later)) (cases_eq n i)

ends : (passes : ℕ → Bool) (i count : ℕ) → Passed passes i (i + count) → search passes i count ≡ i + count
unfolding search
ends passes i zero p = omega arith
ends passes i (suc count) p =
    let passed : passes i ≡ true = p i (omega arith) (omega arith) in
    rw passed (ends passes (suc i) count (λ k l m. p k (omega arith) (omega arith)) ∙ (omega arith))

module _ (passes : ℕ → Bool) (i count end : ℕ) (last : i + count ≡ end) where
  pub found_none : Passed passes i end → None ≡ found passes i count
  unfolding found
  found_none p =
      let e : search passes i count ≡ i + count = ends passes i count (rw last p) in
      rw (eq-eqb _ _ e)

  pub found_here : (n : ℕ) → i ≤ n → n < end → Passed passes i n → passes n ≡ false → Some n ≡ found passes i count
  unfolding found
  found_here n low high p e =
      let here : search passes i count ≡ n = stops passes i count n low (omega arith) p e in
      rw (here, ne_eqb n (i + count) (λ z. omega arith))

  -- What the library's search over a range finds.
  pub found-by : (r : Option ℕ)
      → MatchOption r ((k : ℕ) → i ≤ k → k < end → passes k ≡ true) (λ n. (i ≤ n) × (n < end) × (passes n ≡ false) × ((k : ℕ) → i ≤ k → k < n → passes k ≡ true))
      → r ≡ found passes i count
  found-by None p = found_none p
  found-by (Some n) p = found_here n p.0 p.1 p.3 p.2

-- The place that was found, or the end, is where the search ends.
pub found-or_end : (passes : ℕ → Bool) (i n : ℕ) → i ≤ n → unwrap_or (found passes i (n - i)) n ≡ search passes i (n - i)
unfolding found
found-or_end passes i n l =
    let place = search passes i (n - i) in
    cond_both _ None (Some place) (λ o. unwrap_or o n ≡ place) (λ t. let last : place ≡ i + (n - i) = eqb-true _ _ t in omega arith) (λ f. refl)

-- The verdict of a search that found this.
pub lowest-from : (number : ℕ) (passes : ℕ → Bool) (i n : ℕ) (place : Option ℕ) → place ≡ found passes i n → given number (unwrap_or place 0) (is_some place) ≡ lowest number passes i n
unfolding lowest given found
lowest-from number passes i n place e = rw e (⊎_elim (λ t. rw t) (λ f. rw f) (cases_Bool (eqb (search passes i n) (i + n))))

pub lowest-is : (number : ℕ) (passes : ℕ → Bool) (n : ℕ) (place : Option ℕ) → place ≡ found passes 0 n → given number (unwrap_or place 0) (is_some place) ≡ lowest number passes 0 n
lowest-is number passes n place e = lowest-from number passes 0 n place e

-- Tests that agree at each place search alike.
search-same : (p q : ℕ → Bool) (i count : ℕ) → ((k : ℕ) → i ≤ k → k < i + count → p k ≡ q k) → search p i count ≡ search q i count
unfolding search
search-same p q i zero h = refl
search-same p q i (suc count) h = rw (h i (omega arith) (omega arith)) (ap (λ x. cond (q i) x i) (search-same p q (suc i) count (λ k l m. h k (omega arith) (omega arith))))

pub found-same : (p q : ℕ → Bool) (i count : ℕ) → ((k : ℕ) → i ≤ k → k < i + count → p k ≡ q k) → found p i count ≡ found q i count
unfolding found
found-same p q i count h = rw (search-same p q i count h)
