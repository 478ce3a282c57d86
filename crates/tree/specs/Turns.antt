-- A loop over the numbers below a count whose definition takes one number at a time: its turns, and what it leaves at the end.
use Rattle.std.specs.Prelude.{◌≡◌, List, ℕ, suc, ◌+◌, ◌-◌, ◌≤◌, ◌<◌}
use Rattle.std.proofs.Common.{sym, ◌∙◌, arith}
use Rattle.std.proofs.Math.Nat.{sub-zero}

-- After n turns the list is x: the rest of the turns on x is the whole.
pub record Turning {A : Type 0} (all : ℕ → ℕ → List A → List A) (count : ℕ) (start : List A) (n : ℕ) (x : List A) : Type 0 where
  pub same : all 0 count start ≡ all n (count - n) x

-- What a definition that takes one number at a time says.
pub record Steps {A : Type 0} (all : ℕ → ℕ → List A → List A) (step : ℕ → List A → List A) : Type 0 where
  pub none : (n : ℕ) (x : List A) → all n 0 x ≡ x
  pub one : (n count : ℕ) (x : List A) → all n (suc count) x ≡ all (suc n) count (step n x)

module _ {A : Type 0} (all : ℕ → ℕ → List A → List A) (step : ℕ → List A → List A) (steps : Steps all step) (count : ℕ) (start : List A) where
  pub turn_next : (n : ℕ) (x : List A) → Turning all count start n x → n < count → (x' : List A) → x' ≡ step n x → Turning all count start (n + 1) x'
  turn_next n x t l x' e =
      let s : count - n ≡ suc (count - (n + 1)) = omega arith in
      let e' : n + 1 ≡ suc n = omega arith in
      record { same = t.same ∙ rw s (steps.one n (count - (n + 1)) x ∙ rw (e, e')) }

  pub turn_last : (n : ℕ) (x : List A) → Turning all count start n x → count ≤ n → x ≡ all 0 count start
  turn_last n x t l =
      let s : count - n ≡ 0 = omega arith in
      sym (t.same ∙ rw s (steps.none n x))

pub turn_first : {A : Type 0} (all : ℕ → ℕ → List A → List A) (count : ℕ) (start : List A) → Turning all count start 0 start
turn_first all count start = record { same = rw sub-zero }
