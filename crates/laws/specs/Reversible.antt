-- Demand 2: a run that is done is taken back by the run in the other direction, in as many steps, with the store as it was.
-- The idea: over an accepted image every call is taken back (Procedures); here it is the last procedure's, over the store and locals that are 0.
use Rattle.std.specs.Prelude.{ℕ, ◌+◌, ◌-◌, ◌^◌, ◌≤◌, ◌<◌, List, [], ◌++◌, ◌≡◌, refl, length, get_or, take, drop, replicate}
use Rattle.std.proofs.Common.{sym, ◌∙◌, ap, arith, length-append, length-drop, take-append-drop, get_or-append-add, get_or-take, get_or-drop, ext_get_or, length-take-le, pow_pos, eqb→eq, lit<}
use Rattle.std.proofs.Math.Logic.{dite}
use Rattle.std.proofs.Math.Decide.{dec_lt}
use Rattle.std.proofs.lemmas.List.{length-replicate, get_or-replicate}
use Rattle.std.proofs.Math.ListN.{get_or-append, get_or-eq_default}
use Rattle.std.proofs.Math.Seq.{take-append_seam}
use Rattle.rules.specs.Words.{Direction, opposite}
use Rattle.rules.specs.Image.{Header, header_of, Parts, parts_of, procedure_of}
use Rattle.rules.specs.Form.{shared_before}
use Rattle.rules.specs.Tree.{body_of}
use Rattle.rules.specs.Walk.{type_of}
use Rattle.rules.specs.Check.{verdict, slow}
use Rattle.rules.specs.Machine.{Slot, no_slot, State, Out, done, stop, Command}
use Rattle.rules.specs.Run.{Given, Outcome, room_before, home, store_slots, calls_below, last_of, sum, sizes, execution, outcome_of, run}
use Rattle.laws.specs.Records.{Sound, sound}
use Rattle.laws.specs.Cells.{In, in_list, store_count, store_inside, store_apart, store_cells, store_width, of_cell-stored, of_cell-store}
use Rattle.laws.specs.Spec.{Cells, Inv, Post}
use Rattle.laws.specs.Undo.{Passed}
use Rattle.laws.specs.Procedures.{LawfulBody, Locals, homes, cell_count, cell_size, calls_undone}
use Rattle.laws.specs.PlainTrees.{plain-bodies}
use Rattle.laws.specs.RulesWalk.{body_lawful}
use Rattle.laws.specs.Refusals.{Stops, refuses_calls}
use Rattle.laws.specs.Entry.{StoreFits, length_scalar, length_below, Entered, entry_read, entry_accepted, run-entered, run-accepted}

-- The state in which a run begins: the store, then the locals, which are 0.
abbrev begun : Header → Parts → List ℕ → ℕ → State
begun h s store budget = record { memory = store ++ replicate (room_before h s h.variables) 0; left = budget; events = [] }

-- The last procedure's body, over parameters of these lengths.
abbrev last_call : Header → Parts → List ℕ → Direction → Command
last_call h s lengths d = calls_below h s (homes h s lengths) h.procedures (h.procedures - 1) d (store_slots s (last_of h s).first 0 lengths)

-- ---- a store with zeros behind it

behind_zero : (store : List ℕ) (n i : ℕ) → length store ≤ i → get_or (store ++ replicate n 0) i 0 ≡ 0
behind_zero store n i l =
    let e : length store + (i - length store) ≡ i = omega arith in
    rw (← e) (get_or-append-add store (replicate n 0) (i - length store) 0 ∙ dite (dec_lt (i - length store) n)
    (λ m. get_or-replicate n (i - length store) 0 0 m) (λ k. let m : length (replicate {A = ℕ} n 0) ≤ i - length store = rw (length-replicate {A = ℕ} n 0) (omega arith) in get_or-eq_default (replicate n 0) 0 m))

-- A memory of m + n cells that is 0 behind the first m is those and n zeros.
split_zero : (σ : List ℕ) (m n : ℕ) → length σ ≡ m + n → ((i : ℕ) → m ≤ i → get_or σ i 0 ≡ 0) → take m σ ++ replicate n 0 ≡ σ
split_zero σ m n e z =
    ap (λ τ. take m σ ++ τ) (ext_get_or 0 (replicate n 0) (drop m σ) (length-replicate {A = ℕ} n 0 ∙ rw (length-drop m σ) (omega arith))
    (λ i l. get_or-replicate n i 0 0 (rw (length-replicate {A = ℕ} n 0) at l) ∙ sym (get_or-drop m σ i 0 ∙ z (m + i) (omega arith))))
    ∙ take-append-drop m σ

-- ---- the last procedure of an accepted image, over a well formed store

module _ (h : Header) (s : Parts) (S : Sound slow h s) (lengths : List ℕ) where
  abbrev last : ℕ
  last = h.procedures - 1

  abbrev lent_slots : List Slot
  lent_slots = store_slots s (last_of h s).first 0 lengths

  last-below : last < h.procedures
  last-below = omega (arith, S.some)

  lawful_bodies : (p : ℕ) → p < h.procedures → LawfulBody s (procedure_of s.procedures p) (body_of h s p)
  lawful_bodies p l = body_lawful slow s p
      (λ x m c. let e = eqb→eq (type_of s x).kind 3 c in ((S.variable x (omega (arith, (S.procedure p l).end))).plain (omega arith)).1)
      (body_of h s p) (plain-bodies h s p) (S.procedure p l).parameters (S.walked p l)

  -- The cells behind the store.
  abbrev Behind : Cells
  Behind i = sum lengths ≤ i

  module _ (store : List ℕ) (w : StoreFits h s lengths store) where
    lent-short : (j : ℕ) → (get_or lent_slots j no_slot).cells < 2 ^ 64
    lent-short j = dite (dec_lt j (length lengths))
        (λ l. rw (store_cells s (last_of h s).first 0 lengths j l) (let m : 4096 < 2 ^ 64 = lit< tt in omega (arith, length_below s (last_of h s).first lengths w.fit j l)))
        (λ k. let m : length lent_slots ≤ j = omega (arith, store_count s (last_of h s).first 0 lengths) in rw (get_or-eq_default lent_slots no_slot m) (pow_pos 64))

    store_passed : Passed (cell_count h s lengths) (cell_size h s lengths) s last lent_slots Behind
    store_passed = record {
      count = store_count s (last_of h s).first 0 lengths ∙ w.count;
      apart = λ j k i. store_apart s (last_of h s).first 0 lengths j k i;
      width = λ j i a.
          let l : j < length lengths = omega (arith, in_list lent_slots j i a, store_count s (last_of h s).first 0 lengths) in
          let e = store_width s (last_of h s).first 0 lengths j l in
          (of_cell-store (λ v. v.size) h s lengths j i a ∙ sym e, e);
      bound = λ j i a. let r = store_inside s (last_of h s).first 0 lengths j i a in omega arith;
      short = lent-short;
      free = λ j i a z. let r = store_inside s (last_of h s).first 0 lengths j i a in omega arith;
      one = λ j l c. let m : j < length lengths = omega (arith, store_count s (last_of h s).first 0 lengths) in
          store_cells s (last_of h s).first 0 lengths j m ∙ length_scalar s (last_of h s).first lengths w.fit j m c;
    }

    begun-inv : (budget : ℕ) → Inv (cell_count h s lengths) (cell_size h s lengths) Behind (begun h s store budget).memory
    begun-inv budget = record {
      count = length-append store (replicate (room_before h s h.variables) 0) ∙ rw (length-replicate {A = ℕ} (room_before h s h.variables) 0, w.whole) refl;
      fit = λ i l. dite (dec_lt i (length store))
          (λ m. rw (get_or-append store (replicate (room_before h s h.variables) 0) 0 i m, of_cell-stored (λ v. v.size) h s lengths i (rw w.whole m)) (w.cells i m))
          (λ k. rw (behind_zero store (room_before h s h.variables) i (omega arith)) (pow_pos (cell_size h s lengths i)));
      nil = λ i z. behind_zero store (room_before h s h.variables) i (omega (arith, w.whole));
    }

    -- What a run over the store, finished in c', leaves to the run back, which may take `again` steps.
    record Reversed (d : Direction) (budget again : ℕ) (c' : State) : Type 0 where
      kept : length (take (length store) c'.memory) ≡ length store
      formed : StoreFits h s lengths (take (length store) c'.memory)
      end : State
      back : last_call h s lengths (opposite d) (begun h s (take (length store) c'.memory) again) ≡ done end
      restored : take (length store) end.memory ≡ store
      steps : again - end.left ≡ budget - c'.left

    locals-behind : (n i : ℕ) → Locals h s lengths n i → sum lengths ≤ i
    unfolding home
    locals-behind n i k = omega (arith, k.2.0)

    done_post : (d : Direction) (budget : ℕ) (c' : State) → last_call h s lengths d (begun h s store budget) ≡ done c'
        → Post (cell_count h s lengths) (cell_size h s lengths) (last_call h s lengths (opposite d)) Behind
        (λ i. (j : ℕ) × In (get_or lent_slots j no_slot) i) (begun h s store budget) c'
    done_post d budget c' e =
        let fits : (last_of h s).first + length lengths ≤ h.variables = omega (arith, (S.procedure last last-below).end, (S.procedure last last-below).parameters, w.count) in
        calls_undone h s lengths S.procedure S.variable lawful_bodies fits h.procedures (omega arith) last d lent_slots Behind store_passed
        (locals-behind (shared_before s.procedures h.procedures)) (begun h s store budget) c' (begun-inv budget) e

    reversed : (d : Direction) (budget again : ℕ) (c' : State)
        → last_call h s lengths d (begun h s store budget) ≡ done c' → budget - c'.left ≤ again → Reversed d budget again c'
    reversed d budget again c' e l =
        let P = done_post d budget c' e in
        let count : length c'.memory ≡ length store + room_before h s h.variables = P.inv.count ∙ ap (λ n. n + room_before h s h.variables) w.whole in
        let kept : length (take (length store) c'.memory) ≡ length store = length-take-le (length store) c'.memory (omega arith) in
        let zeros = split_zero c'.memory (length store) (room_before h s h.variables) count (λ i z. P.inv.nil i (rw w.whole z)) in
        let B = P.back (begun h s (take (length store) c'.memory) again) zeros (omega (arith, P.mono)) in
        record {
          kept = kept;
          formed = record { count = w.count; fit = w.fit; whole = w.whole ∙ sym kept; cells = λ i m. cells_fit c'.memory P.inv i (rw kept at m) };
          end = B.end;
          back = B.run;
          restored = rw B.cell (take-append_seam store (replicate (room_before h s h.variables) 0));
          steps = omega (arith, B.lefts, P.mono);
        }
      where
        cells_fit : (σ : List ℕ) → Inv (cell_count h s lengths) (cell_size h s lengths) Behind σ → (i : ℕ) → i < length store → get_or (take (length store) σ) i 0 < 2 ^ get_or (sizes h s lengths) i 0
        cells_fit σ I i m =
            let f = I.fit i (omega (arith, w.whole)) in
            rw (get_or-take (length store) σ i 0 m) (rw (of_cell-stored (λ v. v.size) h s lengths i (rw w.whole m)) at f)

-- ---- the whole run

outcome-done : (g : Given) (o : Out) → Stops o → (outcome_of g o).number ≡ 0 → (c' : State) × (o ≡ done c')
unfolding outcome_of Stops
outcome-done g (done c') l e = (c', refl)
outcome-done g (stop k n c') l e = absurd (omega (arith, l.0))

-- The execution is the last procedure's call.
execution-is : (g : Given) → sum g.lengths ≡ length g.store → (h : Header) (s : Parts)
    → execution h s g ≡ last_call h s g.lengths g.direction (begun h s g.store g.budget)
unfolding execution
execution-is g e h s = ap (λ n. calls_below h s (home h s n) h.procedures (h.procedures - 1) g.direction (store_slots s (last_of h s).first 0 g.lengths) (begun h s g.store g.budget)) (sym e)

given_is : (h : Given) (image : List ℕ) (direction : Direction) (lengths store : List ℕ) → h.image ≡ image → h.direction ≡ direction → h.lengths ≡ lengths → h.store ≡ store
    → h ≡ record { image = image; direction = direction; lengths = lengths; store = store; works = h.works; budget = h.budget; room = h.room }
given_is h image direction lengths store a b c d = rw (← a, ← b, ← c, ← d) refl

-- A run with number 0 was let in, and done.
record Ran (g : Given) : Type 0 where
  entered : Entered g
  end : State
  finished : last_call (header_of g.image) (parts_of g.image) g.lengths g.direction (begun (header_of g.image) (parts_of g.image) g.store g.budget) ≡ done end
  steps : (run g).steps ≡ g.budget - end.left
  store : (run g).store ≡ take (length g.store) end.memory

ran : (g : Given) → (run g).number ≡ 0 → Ran g
unfolding outcome_of
ran g e =
    let A = run-accepted g e in
    let E = entry_read g A in
    let X = execution-is g E.store.whole (header_of g.image) (parts_of g.image) in
    let r = run-entered g A in
    let o = outcome-done g (execution (header_of g.image) (parts_of g.image) g) (rw X (refuses_calls (header_of g.image) (parts_of g.image) _ _ _ _ _ _)) (ap (λ (u : Outcome). u.number) (sym r) ∙ e) in
    let q : run g ≡ outcome_of g (done o.0) = r ∙ ap (outcome_of g) o.1 in
    record {
      entered = E;
      end = o.0;
      finished = sym X ∙ o.1;
      steps = ap (λ (u : Outcome). u.steps) q;
      store = ap (λ (u : Outcome). u.store) q;
    }

-- What is let in and whose last procedure finishes is a run of number 0.
runs : (g : Given) (end : State) → Entered g
    → last_call (header_of g.image) (parts_of g.image) g.lengths g.direction (begun (header_of g.image) (parts_of g.image) g.store g.budget) ≡ done end
    → run g ≡ outcome_of g (done end)
runs g end E e = run-entered g (entry_accepted g E) ∙ ap (outcome_of g) (execution-is g E.store.whole (header_of g.image) (parts_of g.image) ∙ e)

back_again : (g : Given) (works budget room : ℕ) (R : Ran g) → 8192 ≤ works → g.budget - R.end.left ≤ budget
    → (h : Given) → h ≡ record { image = g.image; direction = opposite g.direction; lengths = g.lengths; store = take (length g.store) R.end.memory; works = works; budget = budget; room = room }
    → ((run h).number ≡ 0) × ((run h).steps ≡ g.budget - R.end.left) × ((run h).store ≡ g.store)
unfolding verdict outcome_of
back_again g works budget room R w b h e =
    let E = R.entered in
    let B = reversed (header_of g.image) (parts_of g.image) (sound slow g.image E.checked) g.lengths g.store E.store g.direction g.budget budget R.end R.finished b in
    let back : Given = record { image = g.image; direction = opposite g.direction; lengths = g.lengths; store = take (length g.store) R.end.memory; works = works; budget = budget; room = room } in
    let q : run h ≡ outcome_of back (done B.end) = ap run e ∙ runs back B.end (record { checked = E.checked; works = w; store = B.formed; room = rw B.kept E.room }) B.back in
    (ap (λ (u : Outcome). u.number) q, ap (λ (u : Outcome). u.steps) q ∙ B.steps, ap (λ (u : Outcome). u.store) q ∙ rw B.kept B.restored)

-- Demand 2.
pub reversible : (g h : Given) → (run g).number ≡ 0 → h.image ≡ g.image → h.lengths ≡ g.lengths → h.direction ≡ opposite g.direction → h.store ≡ (run g).store → 8192 ≤ h.works → (run g).steps ≤ h.budget
    → ((run h).number ≡ 0) × ((run h).steps ≡ (run g).steps) × ((run h).store ≡ g.store)
reversible g h e image lengths direction store works budget =
    let R = ran g e in
    let r = back_again g h.works h.budget h.room R works (rw (← R.steps) budget) h
    (given_is h g.image (opposite g.direction) g.lengths (take (length g.store) R.end.memory) image direction lengths (store ∙ R.store)) in
    (r.0, r.1 ∙ sym R.steps, r.2)
