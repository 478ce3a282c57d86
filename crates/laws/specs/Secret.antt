-- Demand 3, secrecy: what an accepted program without unsafe look-ups shows does not depend on the secret cells of its store.
-- First what the statement speaks of, then the proof from the laws of procedures, at the end the theorem.
use Rattle.std.specs.Prelude.{ℕ, ◌+◌, ◌-◌, ◌≤◌, ◌<◌, min, List, [], ◌++◌, ◌≡◌, refl, Bool, true, false, not, cond, ◌⊎◌, length, get_or, take, replicate, T, eqb}
use Rattle.std.proofs.Common.{sym, ◌∙◌, ap₂, subst, arith, length-append, length-take, get_or-append-add, get_or-take, T_not}
use Rattle.std.proofs.Math.Path.{ap}
use Rattle.std.proofs.Math.Logic.{dite}
use Rattle.std.proofs.Math.Decide.{dec_lt}
use Rattle.std.proofs.Math.ListN.{get_or-append}
use Rattle.rules.specs.Words.{Binary, divides}
use Rattle.rules.specs.Image.{Header, header_of, Parts, parts_of}
use Rattle.rules.specs.Form.{Verdict, ◌then◌}
use Rattle.rules.specs.Check.{slow, verdict, without_unsafe}
use Rattle.rules.specs.Machine.{State, Out, done, stop}
use Rattle.rules.specs.Run.{Given, Outcome, room_before, home, store_slots, last_of, sum, secrecies, work_refusal, room_refusal, execution, outcome_of, refused_run, run}
use Rattle.laws.specs.Verdicts.{Accepted, equal_test, unequal_test}
use Rattle.laws.specs.Records.{Sound, sound}
use Rattle.laws.specs.Cells.{store_count, of_cell, of_cell-stored, per_cell-each}
use Rattle.laws.specs.Entry.{WellFormed, StoreFits, store_read, length_scalar, entry_is, room_same, run_is}
use Rattle.laws.specs.Growth.{Begins, begins-refl, last, Stepped, grows_calls_below}
use Rattle.laws.specs.Alike.{StatesAlike, OutsAlike, finished, refused, left27, right27}
use Rattle.laws.specs.PlainTrees.{safe_bodies}
use Rattle.laws.specs.AlikeProcedures.{hidden_cell, calls_alike, store_safe}

-- ---- what the statement speaks of (besides WellFormed of Entry and Begins of Growth)

-- The same image, direction, lengths, work words, budget and trace slice: only the stores may differ.
pub record EqualButStore (g h : Given) : Type 0 where
  pub image : g.image ≡ h.image
  pub direction : g.direction ≡ h.direction
  pub lengths : g.lengths ≡ h.lengths
  pub works : g.works ≡ h.works
  pub budget : g.budget ≡ h.budget
  pub room : g.room ≡ h.room

-- Two stores for g, as long as each other, that are equal at every public cell.
pub record SamePublic (g : Given) (σ τ : List ℕ) : Type 0 where
  pub long : length σ ≡ length τ
  pub cell : (i : ℕ) → i < length σ → get_or (secrecies (header_of g.image) (parts_of g.image) g.lengths) i 0 ≡ 0 → get_or σ i 0 ≡ get_or τ i 0

abbrev pub AgreePublic : Given → Given → Type 0
AgreePublic g h = SamePublic g g.store h.store

-- Two outcomes for g that differ at most in the secret cells of the store.
pub record Alike (g : Given) (o p : Outcome) : Type 0 where
  pub number : o.number ≡ p.number
  pub place : o.place ≡ p.place
  pub steps : o.steps ≡ p.steps
  pub events : o.events ≡ p.events
  pub stores : SamePublic g o.store p.store

-- ---- the proof

-- What the theorem says of two outcomes for g.
abbrev Indistinct : Given → Outcome → Outcome → Type 0
Indistinct g o p =
    ((o.number ≡ 27 → ⊥) → (p.number ≡ 27 → ⊥) → Alike g o p)
    × ((o.number ≡ 27) ⊎ (p.number ≡ 27) → (o.steps ≤ p.steps → Begins o.events p.events) × (p.steps ≤ o.steps → Begins p.events o.events))

alike_indistinct : (g : Given) (o p : Outcome) → Alike g o p → Indistinct g o p
alike_indistinct g o p a = ((λ _ _. a), λ _. ((λ _. rw a.events (begins-refl p.events)), (λ _. rw a.events (begins-refl p.events))))

outcome-steps : (g : Given) (o : Out) → (outcome_of g o).steps ≡ g.budget - (last o).left
unfolding outcome_of last
outcome-steps g (done c) = refl
outcome-steps g (stop k n c) = refl

outcome-events : (g : Given) (o : Out) → (outcome_of g o).events ≡ (last o).events
unfolding outcome_of last
outcome-events g (done c) = refl
outcome-events g (stop k n c) = refl

-- One run was refused with 27 in the state c, where the other went on and ended with o.
went_on : (g : Given) (c : State) (o : Out) → Stepped c (last o) → c.left ≤ g.budget
    → (g.budget - c.left ≤ (outcome_of g o).steps → Begins c.events (outcome_of g o).events) × ((outcome_of g o).steps ≤ g.budget - c.left → Begins (outcome_of g o).events c.events)
went_on g c o t l = rw (outcome-steps g o, outcome-events g o) ((λ _. t.later.begins), λ m. rw (t.still (omega (arith, t.later.less))) (begins-refl c.events))

divides-slow : (o : Binary) → T (divides o) → T (slow o)
unfolding slow
divides-slow o t = t

-- g with another store.
abbrev storing : Given → List ℕ → Given
storing g τ = record { image = g.image; direction = g.direction; lengths = g.lengths; store = τ; works = g.works; budget = g.budget; room = g.room }

is_storing : (g h : Given) → EqualButStore g h → h ≡ storing g h.store
is_storing g h E = rw (E.image, E.direction, E.lengths, E.works, E.budget, E.room)

module _ (g : Given) (τ : List ℕ) (ok : Accepted (verdict g.image)) (safe : T (without_unsafe g.image))
    (G : WellFormed g) (H : WellFormed (storing g τ)) (agree : SamePublic g g.store τ) where
  abbrev header : Header
  header = header_of g.image

  abbrev parts : Parts
  parts = parts_of g.image

  abbrev other : Given
  other = storing g τ

  abbrev is_hidden : ℕ → Bool
  is_hidden = hidden_cell header parts g.lengths

  known : Sound slow header parts
  unfolding verdict
  known = sound slow g.image ok

  fit : StoreFits header parts g.lengths g.store
  fit = store_read header parts g.lengths g.store G

  -- The theorem's public cells are those of the laws.
  public-seen : (i : ℕ) → i < sum g.lengths → get_or (secrecies header parts g.lengths) i 0 ≡ 0 → T (not (is_hidden i))
  public-seen i l e = unequal_test (of_cell (λ v. v.secrecy) header parts g.lengths i) 1 (λ q. let z = of_cell-stored (λ v. v.secrecy) header parts g.lengths i l in omega arith)

  seen_public : (i : ℕ) → i < sum g.lengths → T (not (is_hidden i)) → get_or (secrecies header parts g.lengths) i 0 ≡ 0
  seen_public i l p =
      let z = of_cell-stored (λ v. v.secrecy) header parts g.lengths i l in
      let q = known.procedure (header.procedures - 1) (omega (arith, known.some)) in
      let bit = per_cell-each parts (λ v. v ≤ 1) (λ v. v.secrecy) (last_of header parts).first g.lengths
      (λ j m. (known.variable ((last_of header parts).first + j) (omega (arith, q.end, q.parameters, fit.count))).secrecies) i l in
      dite (dec_lt (get_or (secrecies header parts g.lengths) i 0) 1) (λ m. omega arith)
      (λ m. absurd (T_not (is_hidden i) p (equal_test (of_cell (λ v. v.secrecy) header parts g.lengths i) 1 (omega arith))))

  abbrev locals : List ℕ
  locals = replicate (room_before header parts header.variables) 0

  abbrev begin : List ℕ → State
  begin σ = record { memory = σ ++ locals; left = g.budget; events = [] }

  begin-alike : StatesAlike is_hidden (begin g.store) (begin τ)
  begin-alike = record {
    long = length-append g.store locals ∙ ap (λ n. n + length locals) agree.long ∙ sym (length-append τ locals);
    agree = λ i p. dite (dec_lt i (length g.store))
        (λ l. let m : i < length τ = omega (arith, agree.long) in
        get_or-append g.store locals 0 i l ∙ agree.cell i l (seen_public i (omega (arith, fit.whole)) p) ∙ sym (get_or-append τ locals 0 i m))
        (λ l. let d = i - length g.store in
        let e : i ≡ length g.store + d = omega arith in
        let f : i ≡ length τ + d = omega (arith, agree.long) in
        ap (λ j. get_or (g.store ++ locals) j 0) e ∙ get_or-append-add g.store locals d 0 ∙ sym (ap (λ j. get_or (τ ++ locals) j 0) f ∙ get_or-append-add τ locals d 0));
    lefts = refl;
    traces = refl;
  }

  execution-alike : OutsAlike is_hidden (execution header parts g) (execution header parts other)
  unfolding execution
  execution-alike = rw (← fit.whole, ← (store_read header parts g.lengths τ H).whole)
      (calls_alike slow divides-slow header parts known (safe_bodies g.image safe) g.lengths header.procedures (omega arith) (header.procedures - 1) g.direction
      (store_slots parts (last_of header parts).first 0 g.lengths) (store_count parts (last_of header parts).first 0 g.lengths ∙ fit.count)
      (store_safe slow divides-slow header parts known (safe_bodies g.image safe) g.lengths (length_scalar parts (last_of header parts).first g.lengths fit.fit)) (begin g.store) (begin τ) begin-alike)

  bounded : (σ : List ℕ) → (last (execution header parts (storing g σ))).left ≤ g.budget
  unfolding execution
  bounded σ = (grows_calls_below header parts (home header parts (length σ)) header.procedures (header.procedures - 1) g.direction
      (store_slots parts (last_of header parts).first 0 g.lengths) (begin σ)).less

  end_same : (c d : State) → StatesAlike is_hidden c d → SamePublic g (take (length g.store) c.memory) (take (length τ) d.memory)
  end_same c d r = record {
    long = length-take (length g.store) c.memory ∙ ap₂ min agree.long r.long ∙ sym (length-take (length τ) d.memory);
    cell = λ i l e.
        let t = length-take (length g.store) c.memory in
        let m : i < length g.store = omega arith in
        get_or-take (length g.store) c.memory i 0 m ∙ r.agree i (public-seen i (omega (arith, fit.whole)) e) ∙ sym (get_or-take (length τ) d.memory i 0 (omega (arith, agree.long)));
  }

  ended : {o p : Out} → OutsAlike is_hidden o p → (last o).left ≤ g.budget → (last p).left ≤ g.budget → Indistinct g (outcome_of g o) (outcome_of other p)
  unfolding outcome_of last
  ended (finished {c} {d} r) l m =
      alike_indistinct g _ _ (record { number = refl; place = refl; steps = ap (λ n. g.budget - n) r.lefts; events = r.traces; stores = end_same c d r })
  ended (refused e t) l m = alike_indistinct g _ _ (record { number = refl; place = refl; steps = ap (λ n. g.budget - n) e; events = t; stores = agree })
  ended (left27 {c = c} {o = o} t) l m = ((λ a b. absurd (a refl)), λ _. went_on other c o t l)
  ended (right27 {c = c} {o = o} t) l m = ((λ a b. absurd (b refl)), λ _. let z = went_on g c o t m in (z.1, z.0))

  indistinct : Indistinct g (run g) (run other)
  indistinct =
      let v = work_refusal g.works then room_refusal header parts g.store in
      let e = ap (λ r. work_refusal g.works then r) (room_same header parts g.store τ agree.long) in
      rw (run_is g v (entry_is g ok G), run_is other v (entry_is other ok H ∙ sym e)) (go v (eqb v.number 0))
    where
      go : (v : Verdict) (b : Bool) → Indistinct g (cond b (outcome_of g (execution header parts g)) (refused_run g v)) (cond b (outcome_of other (execution header parts other)) (refused_run other v))
      go v true = ended execution-alike (bounded g.store) (bounded τ)
      go v false = unfold refused_run in alike_indistinct g _ _ (record { number = refl; place = refl; steps = refl; events = refl; stores = agree })

-- ---- the theorem

-- The runs of one accepted program without unsafe look-ups over two well-formed stores that agree on public cells: if neither is refused with 27,
-- number, place, steps, trace and the public cells afterwards are equal; if one is, the trace of the run with fewer or equal steps begins the other's.
pub secret : (g h : Given) → EqualButStore g h → (verdict g.image).number ≡ 0 → T (without_unsafe g.image) → WellFormed g → WellFormed h → AgreePublic g h
    → (((run g).number ≡ 27 → ⊥) → ((run h).number ≡ 27 → ⊥) → Alike g (run g) (run h))
    × (((run g).number ≡ 27) ⊎ ((run h).number ≡ 27)
    → ((run g).steps ≤ (run h).steps → Begins (run g).events (run h).events) × ((run h).steps ≤ (run g).steps → Begins (run h).events (run g).events))
secret g h E ok safe G H agree =
    let e = is_storing g h E in
    subst (λ k. Indistinct g (run g) (run k)) (sym e) (indistinct g h.store ok safe G (subst WellFormed e H) agree)
