-- One law for each way out of `arguments`: nothing is left, an address is refused, or one row is written and the rest lent behind it.
use Prim.Native.Nat.{ℕ, zero, suc, ◌+◌, ◌≤◌, ◌<◌}
use mathlib.Core.Path.{◌≡◌, refl, ap, ◌∙◌}
use mathlib.Core.List.{List, [], ◌∷◌, append-nil}
use mathlib.Core.Logic.{inl, inr, ⊎_elim}
use native.Mathlib.Nat.{add-zero}
use native.Mathlib.Omega.{arith}
use borrow.Author.Tests.{ltb-true}
use lib.Dec.{ltb}
use lib.ListN.{length}
use Rattle.rules.specs.Tree.{LValue, whole, entry}
use Rattle.rules.specs.Machine.{Slot, Env, Found, found, after, and_then, inside, eval, address, lent, arguments}
use Rattle.std.specs.Prelude.{Result, Ok, Err, ⊤}
use Rattle.std.proofs.lemmas.Bool.{cond_both}
use Rattle.records.specs.declared.refusal.Refusal.{Refusal}
use Rattle.expressions.specs.Results.{some_number}
use Rattle.expressions.specs.Standing.{valued, ran}
use Rattle.expressions.specs.Relations.{Table, Valued, answer, Traced, slot_of, Good, Agree, Answers, finding, failing, Got, Gets, Rows, Apart, Lends}
use Rattle.expressions.specs.Each.{Each, each_then, each_any}
use Rattle.expressions.specs.Names.{In, WithinL, WithinLs}
use Rattle.expressions.specs.Laws.{then_on, then_refused}
use Rattle.expressions.specs.Agreement.{address_same, lent_same}

-- A cell's number is small where all slots are good.
abbrev Small : ℕ → Type 0
Small i = i ≤ 4096

module _ (ρ : Env) (lo hi : ℕ) (good : (y : ℕ) → lo ≤ y → y < hi → Good (ρ y)) where
  inside-small : (n x : ℕ) → In lo hi x → (v : ℕ) → Each Small (inside n (ρ x) v)
  unfolding inside Each
  inside-small n x i v =
      let g = good x i.low i.high in
      cond_both (ltb v (ρ x).cells) _ _ (Each Small) (λ e. omega (arith, g.placed, ltb-true v (ρ x).cells e)) (λ e. tt)

  address-small : (σ : List ℕ) (l : LValue) → WithinL lo hi l → Each Small (address ρ σ l)
  unfolding address WithinL Each
  address-small σ (whole n x) w = omega (arith, (good x w.low w.high).placed)
  address-small σ (entry n u x e) w = each_then _ Small (eval ρ σ e) (inside n (ρ x)) (each_any (eval ρ σ e)) (λ v any. inside-small n x w.0 v)

small_value : {F : Found ℕ} {events trace : List ℕ} {i entries : ℕ} → Each Small F → Got F events trace (answer i 0 0 entries) → i ≤ 4096
unfolding Each
small_value s (finding f) = rw f.is s
small_value s (failing f) = absurd (omega (arith, f.number_is, f.refusal))

-- What follows with no event of its own keeps the answer.
answers_map : {A B : Type 0} {ok : A → Type 0} (ok' : B → Type 0) (f : A → B) {F : Found A} {events trace : List ℕ} {number place entries : ℕ}
    → Answers ok F events trace number place entries → ((v : A) → ok v → ok' (f v)) → Answers ok' (and_then F (λ v. found (f v) [])) events trace number place entries
unfolding and_then after
answers_map ok' f (finding {v} r) g = finding (record { going = r.going; is = g v r.is; traced = rw append-nil r.traced })
answers_map ok' f (failing r) g = failing r

rows_cons : (slots : Table) (y : ℕ) (x : Slot) (xs : List Slot) → slot_of slots y ≡ x → Rows slots (y + 1) xs → Rows slots y (x ∷ xs)
rows_cons slots y x xs e r zero l = rw (add-zero y) e
rows_cons slots y x xs e r (suc j) l = let next : y + suc j ≡ y + 1 + j = omega arith in rw next (r j (omega arith))

-- Row y is written, then those behind it.
apart_more : (slots slots₁ slots₂ : Table) (y count : ℕ) → Apart slots slots₁ y 1 → Apart slots₁ slots₂ (y + 1) count → Apart slots slots₂ y (suc count)
apart_more slots slots₁ slots₂ y count a b x out =
    b x (⊎_elim (λ l. inl (omega arith)) (λ l. inr (omega arith)) out) ∙ a x (⊎_elim (λ l. inl l) (λ l. inr (omega arith)) out)

module _ (ρ : Env) (σ : List ℕ) (y : ℕ) {ls₀ : List LValue} where
  pub lends_none : ls₀ ≡ [] → (slots : Table) {trace : List ℕ} {entries : ℕ} (left : ℕ)
      → Apart slots slots y (length ls₀)
      × ((events : List ℕ) → Traced trace entries events → Lends (arguments ρ σ ls₀) y events slots trace (record { number = 0; place = 0; left = left; entries = entries }))
  unfolding arguments
  lends_none e slots left = (
    (λ x out. refl),
    λ events t. rw e (finding {v = []} (record { going = refl; is = λ j l. absurd (omega arith); traced = rw (← append-nil events) at t })),
  )

  module _ (l : LValue) (ls : List LValue) (e : ls₀ ≡ l ∷ ls) (slots : Table) (lo hi : ℕ) (agree : Agree slots ρ lo hi)
      (within : WithinLs lo hi ls₀) (below : y + length ls₀ ≤ lo) where
    split : WithinL lo hi l × WithinLs lo hi ls
    unfolding WithinLs
    split = rw e at within

    agrees : {trace trace₁ : List ℕ} {entries : ℕ} {v : Valued} → Gets (address (slot_of slots) σ l) trace entries trace₁ v → Gets (address ρ σ l) trace entries trace₁ v
    agrees g = rw (address_same (slot_of slots) ρ lo hi agree.rows σ l split.0) at g

    pub lends_refused : {trace trace₁ : List ℕ} {entries entries₁ : ℕ} (r : Refusal) → Gets (address (slot_of slots) σ l) trace entries trace₁ (valued (Err r) entries₁)
        → Apart slots slots y (length ls₀) × ((events : List ℕ) → Traced trace entries events → Lends (arguments ρ σ ls₀) y events slots trace₁ (ran (Err r) 0 entries₁))
    unfolding arguments
    lends_refused r g = ((λ x out. refl), λ events t. rw e (then_refused _ _ (agrees g events t) (some_number r)))

    module _ {trace trace₁ : List ℕ} {entries entries₁ : ℕ} (i : ℕ) (g : Gets (address (slot_of slots) σ l) trace entries trace₁ (valued (Ok i) entries₁))
        (slots₁ : Table) (long : length slots₁ ≡ length slots) (lent-apart : Apart slots slots₁ y 1)
        (row : i < 65536 → y < length slots → slot_of slots₁ y ≡ lent (slot_of slots) l i) where
      rest_below : y + 1 + length ls ≤ lo
      rest_below = omega (arith, ap length e, below)

      kept : Agree slots₁ ρ lo hi
      kept = record {
        rows = λ x low high. lent-apart x (inr (omega (arith, rest_below))) ∙ agree.rows x low high;
        good = agree.good;
        room = rw long agree.room;
      }

      in_row : {events : List ℕ} → Traced trace entries events → slot_of slots₁ y ≡ lent ρ l i
      in_row {events} t =
          let small : i ≤ 4096 = small_value (address-small ρ lo hi agree.good σ l split.0) (agrees g events t) in
          row (omega arith) (omega (arith, rest_below, agree.room)) ∙ lent_same (slot_of slots) ρ lo hi agree.rows σ l split.0 i

      pub lends_on : (r : Result ⊤ Refusal) (slots₂ : Table) {trace₂ : List ℕ} (entries₂ : ℕ)
          → (Agree slots₁ ρ lo hi → WithinLs lo hi ls → y + 1 + length ls ≤ lo
          → Apart slots₁ slots₂ (y + 1) (length ls)
          × ((events : List ℕ) → Traced trace₁ entries₁ events → Lends (arguments ρ σ ls) (y + 1) events slots₂ trace₂ (ran r 0 entries₂)))
          → Apart slots slots₂ y (length ls₀) × ((events : List ℕ) → Traced trace entries events → Lends (arguments ρ σ ls₀) y events slots₂ trace₂ (ran r 0 entries₂))
      unfolding arguments
      lends_on r slots₂ entries₂ rest =
          let q = rest kept split.1 rest_below in
          rw e (
            apart_more slots slots₁ slots₂ y (length ls) lent-apart q.0,
            λ events t.
                then_on (λ xs. Rows slots₂ y xs) _ (agrees g events t) refl
                (λ j is events₁ t₁. answers_map (λ xs. Rows slots₂ y xs) (λ xs. lent ρ l j ∷ xs) (q.1 events₁ t₁)
                (λ xs rows. rows_cons slots₂ y (lent ρ l j) xs (q.0 y (inl (omega arith)) ∙ in_row t ∙ ap (λ k. lent ρ l k) is) rows)),
          )
