-- One law for each way out of a function that works something out: that the answer it makes is what the rules find.
use Prim.Native.Nat.{ℕ, zero, suc, ◌+◌, ◌-◌, ◌^◌, ◌<◌}
use mathlib.Core.Path.{◌≡◌, refl, sym, ap, ◌∙◌, subst⁻¹}
use mathlib.Core.List.{List, [], append-nil, append_assoc}
use mathlib.Core.Bool.{Bool, true, false, cond, ◌&&◌, and_comm}
use native.Mathlib.Nat.{mod-eq_of_lt}
use native.Mathlib.Numerals.{add-one}
use native.Mathlib.Omega.{arith}
use borrow.Author.Tests.{lt-ltb, le-ltb}
use lib.Dec.{eqb, lit<}
use lib.ListN.{get_or, set}
use Rattle.std.specs.Prelude.{MatchBool, ◌∷◌, length, not, leb, Result, Ok, Err, ⊤}
use Rattle.std.specs.Result.{IsErrAnd}
use Rattle.std.specs.List.{range_with_len, AllWithin, HoldsAt}
use Rattle.std.proofs.lemmas.Bool.{leb-false, leb-true, eqb-true, eqb-false, true≢false}
use Rattle.std.proofs.lemmas.List.Recursion.{and_from_places, and_fails_at}
use Rattle.std.proofs.lemmas.Result.{err_from_is_err_and}
use Rattle.records.specs.Refusals.{as_verdict, counted}
use Rattle.records.specs.declared.refusal.Refusal.{Refusal}
use Rattle.rules.specs.Form.{Verdict, refused, accepted, given, ◌then◌}
use Rattle.rules.specs.Walk.{every}
use Rattle.rules.specs.Words.{Binary, operate, divides, exchanged}
use Rattle.rules.specs.Image.{Variable, is_constant}
use Rattle.rules.specs.Tree.{constant, variable}
use Rattle.rules.specs.Machine.{Slot, Env, State, done, stop, found, fault, cell_event, inside, load, divided, eval, noted, holding, step_from, step, change, exchange, choose, zeros, cleared, block_end}
use Rattle.expressions.specs.Relations.{Run, Valued, Emitted, answer, finding, failing, Gets, Holds, Matches, goes_on, is_stopped, Does}
use Rattle.expressions.specs.Standing.{ran, valued}

-- What is found or refused with no event leaves the trace.
pub found_plain : (v : ℕ) {trace : List ℕ} {entries : ℕ} → Gets (found v []) trace entries trace (answer v 0 0 entries)
found_plain v events t = finding (record { going = refl; is = refl; traced = rw append-nil t })

pub fault_plain : (k m : ℕ) → 0 < k → {trace : List ℕ} {entries : ℕ} → Gets (fault k m []) trace entries trace (answer 0 k m entries)
fault_plain k m some events t = failing (record { number_is = refl; refusal = some; place_is = refl; traced = rw append-nil t })

pub loaded_on : (σ : List ℕ) (i : ℕ) {trace trace' : List ℕ} {entries entries' : ℕ} → Emitted (cell_event i) trace entries trace' entries'
    → Gets (load σ i) trace entries trace' (answer (get_or σ i 0) 0 0 entries')
unfolding load
loaded_on σ i e events t = finding (record { going = refl; is = refl; traced = e events t })

-- A test by `given` that passes, and one that refuses.
pub passed : (k m : ℕ) (b : Bool) → 0 < k → accepted ≡ given k m b → b ≡ false
unfolding given
passed k m true some e = absurd (omega (arith, some, ap (λ (v : Verdict). v.number) e))
passed k m false some e = refl

broken : (k m : ℕ) (b : Bool) (e : Refusal) → as_verdict (Err e) ≡ given k m b → (b ≡ true) × (as_verdict (Err e) ≡ refused k m)
unfolding given
broken k m true e q = (refl, q)
broken k m false e q = absurd (true≢false (rw (ap (λ (v : Verdict). v.number) q) at (counted e.rule)))

valued_refused : (r : Result ℕ Refusal) (e : Refusal) {k m entries : ℕ} → IsErrAnd r (λ z. z ≡ e) → as_verdict (Err e) ≡ refused k m → valued r entries ≡ answer 0 k m entries
valued_refused r e {entries = entries} f q =
    let p = err_from_is_err_and r f in
    rw (p.1, p.2) (ap (λ (v : Verdict). answer 0 v.number v.place entries) q)

module _ (n : ℕ) (x : Slot) (v : ℕ) {trace : List ℕ} {entries : ℕ} where
  pub inside_found : accepted ≡ given 24 n (leb x.cells v) → (i : ℕ) → i ≡ x.base + v → Gets (inside n x v) trace entries trace (answer i 0 0 entries)
  unfolding inside
  inside_found q i e = rw (lt-ltb _ _ (leb-false _ _ (passed _ _ _ (lit< tt) q)), e) (found_plain _)

  pub inside_refused : (r : Result ℕ Refusal) (e : Refusal) → IsErrAnd r (λ z. z ≡ e) → as_verdict (Err e) ≡ given 24 n (leb x.cells v) → Gets (inside n x v) trace entries trace (valued r entries)
  unfolding inside
  inside_refused r e f q = let p = broken _ _ _ e q in rw (le-ltb _ _ (leb-true _ _ p.0), valued_refused r e f p.1) (fault_plain 24 n (lit< tt))

module _ (n : ℕ) (o : Binary) (v w : ℕ) {trace : List ℕ} {entries : ℕ} where
  pub divided_refused : (r : Result ℕ Refusal) (e : Refusal) → IsErrAnd r (λ z. z ≡ e) → as_verdict (Err e) ≡ given 25 n (eqb w 0 && divides o) → Gets (divided n o v w) trace entries trace (valued r entries)
  unfolding divided
  divided_refused r e f q = let p = broken _ _ _ e q in rw (and_comm (divides o) (eqb w 0) ∙ p.0, valued_refused r e f p.1) (fault_plain 25 n (lit< tt))

  pub divided_found : accepted ≡ given 25 n (eqb w 0 && divides o) → Gets (divided n o v w) trace entries trace (answer (operate o v w) 0 0 entries)
  unfolding divided
  divided_found q = rw (and_comm (divides o) (eqb w 0) ∙ passed _ _ _ (lit< tt) q) (found_plain _)

-- A variable's value, whatever its record is.
module _ (ρ : Env) (σ : List ℕ) (r : Variable) (k n x : ℕ) {trace : List ℕ} {entries : ℕ} where
  pub named-constant : (v : ℕ) → is_constant r ≡ true → v ≡ k → v < 2 ^ 64 → Gets (eval ρ σ (cond (is_constant r) (constant n x k) (variable n x))) trace entries trace (answer v 0 0 entries)
  unfolding eval
  named-constant v e q small = rw (e, ← q, mod-eq_of_lt small) (found_plain v)

  pub named-cell : is_constant r ≡ false → {trace' : List ℕ} {v : Valued} → Gets (load σ (ρ x).base) trace entries trace' v
      → Gets (eval ρ σ (cond (is_constant r) (constant n x k) (variable n x))) trace entries trace' v
  unfolding eval
  named-cell e g = rw e g

-- ---- commands

abbrev at : ℕ → ℕ → ℕ → ℕ → Run
at number place left entries = record { number = number; place = place; left = left; entries = entries }

ran-is : (r : Result ⊤ Refusal) {k m left entries : ℕ} → as_verdict r ≡ refused k m → ran r left entries ≡ at k m left entries
ran-is (Ok x) {left = left} {entries = entries} e = ap (λ (v : Verdict). at v.number v.place left entries) e
ran-is (Err x) {left = left} {entries = entries} e = ap (λ (v : Verdict). at v.number v.place left entries) e

module _ (n : ℕ) (σ : List ℕ) (c : State) {trace : List ℕ} {run : Run} (h : Holds c σ trace run) where
  pub step_out : (r : Result ⊤ Refusal) (e : Refusal) → IsErrAnd r (λ z. z ≡ e) → as_verdict (Err e) ≡ given 23 n (eqb run.left 0)
      → Matches (step n done c) σ trace (ran r run.left run.entries)
  unfolding step step_from
  step_out r e f q =
      let p = err_from_is_err_and r f in
      let k = broken _ _ _ e q in
      rw (p.1, p.2, ran-is (Err e) {left = run.left} {entries = run.entries} k.1)
      (subst⁻¹ (λ left. Matches (step_from left n done c) σ trace (at 23 n run.left run.entries)) (h.left_is ∙ eqb-true _ _ k.0)
      (is_stopped (record { number_is = refl; refusal = lit< tt; place_is = refl; left_is = h.left_is; traced = h.traced })))

  pub step_taken : accepted ≡ given 23 n (eqb run.left 0) → {trace' : List ℕ} {entries' : ℕ} → Emitted n trace run.entries trace' entries'
      → Matches (step n done c) σ trace' (at 0 0 (run.left - 1) entries')
  unfolding step step_from
  step_taken q {trace'} {entries'} e =
      let some : run.left ≡ suc (run.left - 1) = omega (arith, eqb-false, passed 23 n _ (lit< tt) q) in
      subst⁻¹ (λ left. Matches (step_from left n done c) σ trace' (at 0 0 (run.left - 1) entries')) (h.left_is ∙ some)
      (goes_on (record { going = refl; memory_is = h.memory_is; left_is = refl; traced = e c.events h.traced }))

-- A cell's change, from what is written and what is emitted.
pub change-done : (f : ℕ → ℕ) (i : ℕ) {σ σ' trace trace' : List ℕ} (run : Run) {entries' : ℕ} → σ' ≡ set σ i (f (get_or σ i 0))
    → Emitted (cell_event i) trace run.entries trace' entries' → Does (change f i) σ trace run σ' trace' (at 0 0 run.left entries')
unfolding change noted holding
change-done f i run e m c h =
    goes_on (record { going = refl; memory_is = ap (λ s. set s i (f (get_or s i 0))) h.memory_is ∙ sym e; left_is = h.left_is; traced = m c.events h.traced })

-- Two cells exchanged, from what is written and what is emitted.
abbrev exchanged_in : List ℕ → ℕ → ℕ → ℕ → List ℕ
exchanged_in σ condition i j = set (set σ i (exchanged condition (get_or σ i 0) (get_or σ j 0))) j (exchanged condition (get_or σ j 0) (get_or σ i 0))

pub exchange-done : (condition i j : ℕ) {σ σ' trace trace₁ trace' : List ℕ} (run : Run) {entries₁ entries' : ℕ} → σ' ≡ exchanged_in σ condition i j
    → Emitted (cell_event i) trace run.entries trace₁ entries₁ → Emitted (cell_event j) trace₁ entries₁ trace' entries'
    → Does (exchange condition i j) σ trace run σ' trace' (at 0 0 run.left entries')
unfolding exchange noted holding
exchange-done condition i j run e m m' c h =
    goes_on (record {
      going = refl;
      memory_is = ap (λ s. exchanged_in s condition i j) h.memory_is ∙ sym e;
      left_is = h.left_is;
      traced = rw append_assoc at (m' _ (m c.events h.traced));
    })

-- ---- the clearing tests

-- What the library's test of every number of a range says, by what it says of one.
pub all_is : (F : List ℕ → Bool) (p : ℕ → Bool) → F [] ≡ true → ((x : ℕ) (xs : List ℕ) → F (x ∷ xs) ≡ (p x && F xs)) → (xs : List ℕ) (r : Bool)
    → MatchBool r (AllWithin (λ y. p y ≡ true) xs 0 (length xs)) ((k : ℕ) × (k < length xs) × HoldsAt (λ y. p y ≡ false) xs k) → r ≡ F xs
all_is F p none step xs true h = sym (and_from_places F p none step xs 0 (λ i l. h i 0 (omega arith) l))
all_is F p none step xs false h = sym (and_fails_at F p none step xs h.0 0 h.1 (h.2 0))

pub zeros-every : (σ : List ℕ) (i count : ℕ) → zeros σ i count ≡ every (λ j. eqb (get_or σ j 0) 0) (range_with_len i count)
unfolding zeros every
zeros-every σ i zero = refl
zeros-every σ i (suc count) = ap (λ b. eqb (get_or σ i 0) 0 && b) (zeros-every σ (suc i) count ∙ ap (λ k. every (λ j. eqb (get_or σ j 0) 0) (range_with_len k count)) (sym (add-one i)))

-- The two tests, public before secret, are the two choices of the rules.
module _ (n : ℕ) (ρ : Env) (xs : List ℕ) (σ : List ℕ) (c : State) {trace : List ℕ} {left entries : ℕ} (h : Holds c σ trace (at 0 0 left entries)) where
  stops : (k : ℕ) → 0 < k → Matches (stop k n c) σ trace (at k n left entries)
  stops k some = is_stopped (record { number_is = refl; refusal = some; place_is = refl; left_is = h.left_is; traced = h.traced })

  chosen : (p q : Bool) (r : Result ⊤ Refusal) → as_verdict r ≡ (given 26 n (not p) then given 27 n (not q)) → Matches (choose p (choose q done (stop 27 n)) (stop 26 n) c) σ trace (ran r left entries)
  unfolding choose given ◌then◌
  chosen false q r e = rw (ran-is r e) (stops 26 (lit< tt))
  chosen true false r e = rw (ran-is r e) (stops 27 (lit< tt))
  chosen true true r e = rw (ran-is r e) (goes_on h)

  pub block-ends : (r : Result ⊤ Refusal) → as_verdict r ≡ (given 26 n (not (cleared false ρ xs σ)) then given 27 n (not (cleared true ρ xs σ)))
      → Matches (block_end n ρ xs c) σ trace (ran r left entries)
  unfolding block_end
  block-ends r e = rw (ap (cleared false ρ xs) h.memory_is, ap (cleared true ρ xs) h.memory_is) (chosen (cleared false ρ xs σ) (cleared true ρ xs σ) r e)
