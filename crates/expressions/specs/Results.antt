-- How a run goes on after what was worked out, by the code's results.
use Rattle.std.specs.Prelude.{ℕ, ◌≡◌, List, Result, Ok, Err, IsErrAnd}
use Rattle.std.proofs.Common.{refl, ap}
use Rattle.std.proofs.lemmas.Bool.{eqb-false}
use Rattle.rules.specs.Machine.{Command, Found, and_then, reading}
use Rattle.records.specs.Refusals.{number_of, counted}
use Rattle.records.specs.declared.refusal.Refusal.{Refusal}
use Rattle.expressions.specs.Relations.{Run, Valued, Gets, Does}
use Rattle.expressions.specs.Laws.{got_on, then_refused, value_on, value_refused}
use Rattle.expressions.specs.Standing.{valued, ran}

-- What `?` returns is the refusal that it met.
pub passed_on : {A : Type 0} {e : Refusal} (r : Result A Refusal) → IsErrAnd r (λ x. x ≡ e) → r ≡ Err e
passed_on (Ok x) p = absurd p
passed_on (Err x) p = ap (λ y. Err y) p

pub some_number : (r : Refusal) → number_of r.rule ≡ 0 → ⊥
some_number r = eqb-false _ _ (counted r.rule)

-- One value after another.
module _ (F : Found ℕ) (f : ℕ → Found ℕ) {trace trace₁ : List ℕ} {entries entries₁ : ℕ} where
  pub then_found : (v : ℕ) → Gets F trace entries trace₁ (valued (Ok v) entries₁) → {trace₂ : List ℕ} {w : Valued}
      → Gets (f v) trace₁ entries₁ trace₂ w → Gets (and_then F f) trace entries trace₂ w
  then_found v g {w} h events t = got_on f (valued (Ok v) entries₁) w (g events t) refl h

  pub then_fault : (r : Refusal) → Gets F trace entries trace₁ (valued (Err r) entries₁) → Gets (and_then F f) trace entries trace₁ (valued (Err r) entries₁)
  then_fault r g events t = then_refused (λ v. 0 ≡ v) f (g events t) (some_number r)

-- A command that works a value out first.
module _ (F : List ℕ → Found ℕ) (f : ℕ → Command) {cells trace trace₁ : List ℕ} {entries entries₁ left : ℕ} where
  pub reads : (v : ℕ) → Gets (F cells) trace entries trace₁ (valued (Ok v) entries₁) → {cells' trace' : List ℕ} {run' : Run}
      → Does (f v) cells trace₁ (ran (Ok tt) left entries₁) cells' trace' run'
      → Does (reading F f) cells trace (ran (Ok tt) left entries) cells' trace' run'
  reads v g go = value_on F f (valued (Ok v) entries₁) g (record { number_is = refl; place_is = refl; left_is = refl; entries_are = refl }) refl go

  pub reads_refused : (r : Refusal) → Gets (F cells) trace entries trace₁ (valued (Err r) entries₁) → {cells' : List ℕ}
      → Does (reading F f) cells trace (ran (Ok tt) left entries) cells' trace₁ (ran (Err r) left entries₁)
  reads_refused r g = value_refused F f (valued (Err r) entries₁) g (record { number_is = refl; place_is = refl; left_is = refl; entries_are = refl }) (some_number r)
