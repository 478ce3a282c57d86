-- How a run begins: what it says that none of 1 to 22 is given, in both directions, and that the run is then the execution's outcome.
-- With an accepted image and a well formed store only 19 and 22 are left, and these do not look into the store.
use Rattle.std.specs.Prelude.{ℕ, zero, suc, ◌+◌, ◌^◌, ◌≤◌, ◌<◌, List, [], ◌∷◌, ◌≡◌, Bool, true, false, not, cond, ◌&&◌, length, leb}
use Rattle.std.proofs.Common.{◌∙◌, ap, ⊎_elim, arith, leb→le, nltb→le, lit<}
use Rattle.std.proofs.Math.ListN.{get_or}
use Rattle.std.proofs.Math.Dec.{T, eqb, ltb, eqb→eq, ltb→lt, lt→ltb, not_T}
use Rattle.rules.specs.Image.{Header, header_of, Parts, parts_of, is_array}
use Rattle.rules.specs.Form.{Verdict, ◌then◌}
use Rattle.rules.specs.Walk.{type_of}
use Rattle.rules.specs.Check.{verdict}
use Rattle.rules.specs.Run.{Given, room_before, last_of, lengths_fit, sum, sizes, work_refusal, lengths_refusal, cell_refusal, room_refusal, store_refusal, entry_refusal, execution, outcome_of, refused_run, run}
use Rattle.laws.specs.Verdicts.{Accepted, and_iff, both_hold, is_true, is_false, decided, equal_test, given-passed, given_holds, given-none, given-fits, then_both, then_passed, then_accepted, lowest-passed, lowest-none}

-- What a well formed store is, in numbers.
pub record StoreFits (h : Header) (s : Parts) (lengths store : List ℕ) : Type 0 where
  pub count : length lengths ≡ (last_of h s).parameters
  pub fit : T (lengths_fit s (last_of h s).first lengths)
  pub whole : sum lengths ≡ length store
  pub cells : (i : ℕ) → i < length store → get_or store i 0 < 2 ^ get_or (sizes h s lengths) i 0

module _ (h : Header) (s : Parts) (lengths store : List ℕ) where
  pub store_read : Accepted (store_refusal h s lengths store) → StoreFits h s lengths store
  unfolding store_refusal lengths_refusal cell_refusal
  store_read e =
      let b = then_both (lengths_refusal h s lengths store) (cell_refusal h s lengths store) e in
      let t = given_holds 20 0 (eqb (length lengths) (last_of h s).parameters && (lengths_fit s (last_of h s).first lengths && eqb (sum lengths) (length store))) (lit< tt) b.0 in
      let r = simp and_iff at t in
      record {
        count = eqb→eq (length lengths) (last_of h s).parameters r.0;
        fit = r.1.0;
        whole = eqb→eq (sum lengths) (length store) r.1.1;
        cells = λ i l. ltb→lt _ _ (lowest-passed 21 (λ i. ltb (get_or store i 0) (2 ^ get_or (sizes h s lengths) i 0)) 0 (length store) (lit< tt) b.1 i (omega arith) (omega arith));
      }

  pub store_accepted : StoreFits h s lengths store → Accepted (store_refusal h s lengths store)
  unfolding store_refusal lengths_refusal cell_refusal
  store_accepted w = then_accepted (lengths_refusal h s lengths store) (cell_refusal h s lengths store)
      (ap (λ (v : Verdict). v.number) (given-fits 20 0 (eqb (length lengths) (last_of h s).parameters && (lengths_fit s (last_of h s).first lengths && eqb (sum lengths) (length store))) whole))
      (ap (λ (v : Verdict). v.number) (lowest-none 21 (λ i. ltb (get_or store i 0) (2 ^ get_or (sizes h s lengths) i 0)) 0 (length store)
      (λ i _ l. lt→ltb (get_or store i 0) (2 ^ get_or (sizes h s lengths) i 0) (w.cells i (omega arith)))))
    where
      whole : T (eqb (length lengths) (last_of h s).parameters && (lengths_fit s (last_of h s).first lengths && eqb (sum lengths) (length store)))
      whole = both_hold (eqb (length lengths) (last_of h s).parameters) (lengths_fit s (last_of h s).first lengths && eqb (sum lengths) (length store))
          (equal_test (length lengths) (last_of h s).parameters w.count)
          (both_hold (lengths_fit s (last_of h s).first lengths) (eqb (sum lengths) (length store)) w.fit (equal_test (sum lengths) (length store) w.whole))

-- "scalar not 1, array over 4,096": the length of each parameter
pub length_scalar : (s : Parts) (y : ℕ) (ns : List ℕ) → T (lengths_fit s y ns) → (j : ℕ) → j < length ns → T (not (is_array (type_of s (y + j)))) → get_or ns j 0 ≡ 1
unfolding lengths_fit
length_scalar s y [] t j l a = absurd (omega arith)
length_scalar s y (n ∷ ns) t zero l a =
    let r = simp and_iff at t in
    let e : y + 0 ≡ y = omega arith in
    let b : is_array (type_of s y) ≡ false = is_false (is_array (type_of s y)) (rw e at a) in
    eqb→eq n 1 (rw b at r.0)
length_scalar s y (n ∷ ns) t (suc j) l a =
    let r = simp and_iff at t in
    let e : y + suc j ≡ suc y + j = omega arith in
    length_scalar s (suc y) ns r.1 j (omega arith) (rw e at a)

pub length_below : (s : Parts) (y : ℕ) (ns : List ℕ) → T (lengths_fit s y ns) → (j : ℕ) → j < length ns → get_or ns j 0 ≤ 4096
unfolding lengths_fit
length_below s y [] t j l = absurd (omega arith)
length_below s y (n ∷ ns) t zero l = let r = simp and_iff at t in either (is_array (type_of s y)) r.0
  where
    either : (b : Bool) → T (cond b (leb n 4096) (eqb n 1)) → n ≤ 4096
    either true u = leb→le n 4096 u
    either false u = let e = eqb→eq n 1 u in omega arith
length_below s y (n ∷ ns) t (suc j) l = let r = simp and_iff at t in length_below s (suc y) ns r.1 j (omega arith)

-- What is so of what a run is given when none of 1 to 22 is.
pub record Entered (g : Given) : Type 0 where
  pub checked : Accepted (verdict g.image)
  pub works : 8192 ≤ g.works
  pub store : StoreFits (header_of g.image) (parts_of g.image) g.lengths g.store
  pub room : length g.store + room_before (header_of g.image) (parts_of g.image) (header_of g.image).variables ≤ 4096

pub entry_read : (g : Given) → Accepted (entry_refusal g) → Entered g
unfolding entry_refusal work_refusal room_refusal
entry_read g e =
    let a = then_both (verdict g.image) _ e in
    let b = then_both (work_refusal g.works) _ a.1 in
    let c = then_both (store_refusal (header_of g.image) (parts_of g.image) g.lengths g.store) (room_refusal (header_of g.image) (parts_of g.image) g.store) b.1 in
    record {
      checked = a.0;
      works = nltb→le g.works 8192 (given-passed 19 0 (ltb g.works 8192) (lit< tt) b.0);
      store = store_read (header_of g.image) (parts_of g.image) g.lengths g.store c.0;
      room = nltb→le 4096 _ (given-passed 22 0 (ltb 4096 (length g.store + room_before (header_of g.image) (parts_of g.image) (header_of g.image).variables)) (lit< tt) c.1);
    }

pub entry_accepted : (g : Given) → Entered g → Accepted (entry_refusal g)
unfolding entry_refusal work_refusal room_refusal
entry_accepted g E =
    then_accepted (verdict g.image) _ E.checked
    (then_accepted (work_refusal g.works) _ (ap (λ (v : Verdict). v.number) (given-none 19 0 (ltb g.works 8192) (not_T (ltb g.works 8192) (λ t. let l = ltb→lt g.works 8192 t in omega (arith, E.works)))))
    (then_accepted (store_refusal H P g.lengths g.store) (room_refusal H P g.store) (store_accepted H P g.lengths g.store E.store)
    (ap (λ (v : Verdict). v.number) (given-none 22 0 (ltb 4096 cells) (not_T (ltb 4096 cells) (λ t. let l = ltb→lt 4096 cells t in omega (arith, E.room)))))))
  where
    H : Header
    H = header_of g.image

    P : Parts
    P = parts_of g.image

    cells : ℕ
    cells = length g.store + room_before (header_of g.image) (parts_of g.image) (header_of g.image).variables

-- A run that is let in is its execution's outcome; one with number 0 was let in.
pub run-entered : (g : Given) → Accepted (entry_refusal g) → run g ≡ outcome_of g (execution (header_of g.image) (parts_of g.image) g)
unfolding run
run-entered g e = rw (is_true (eqb (entry_refusal g).number 0) (equal_test (entry_refusal g).number 0 e))

pub run-accepted : (g : Given) → (run g).number ≡ 0 → Accepted (entry_refusal g)
unfolding run refused_run
run-accepted g e = ⊎_elim (λ t. eqb→eq (entry_refusal g).number 0 t) (λ f. rw (is_false (eqb (entry_refusal g).number 0) f) at e) (decided (eqb (entry_refusal g).number 0))

-- "A store is well formed when neither 20 nor 21 is given."
abbrev pub WellFormed : Given → Type 0
WellFormed g = (store_refusal (header_of g.image) (parts_of g.image) g.lengths g.store).number ≡ 0

-- 19 and 22 look at how long the store is, not at what is in it.
pub entry_is : (g : Given) → Accepted (verdict g.image) → WellFormed g
    → entry_refusal g ≡ (work_refusal g.works then room_refusal (header_of g.image) (parts_of g.image) g.store)
unfolding entry_refusal
entry_is g e w =
    then_passed (verdict g.image) _ e
    ∙ ap (λ v. work_refusal g.works then v) (then_passed (store_refusal (header_of g.image) (parts_of g.image) g.lengths g.store) _ w)

pub room_same : (h : Header) (s : Parts) (σ τ : List ℕ) → length σ ≡ length τ → room_refusal h s σ ≡ room_refusal h s τ
unfolding room_refusal
room_same h s σ τ e = rw e

pub run_is : (g : Given) (v : Verdict) → entry_refusal g ≡ v → run g ≡ cond (eqb v.number 0) (outcome_of g (execution (header_of g.image) (parts_of g.image) g)) (refused_run g v)
unfolding run
run_is g v e = rw e
