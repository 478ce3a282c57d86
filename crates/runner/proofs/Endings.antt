-- From what the code did to what the rules say of the run: a refusal before the first step, an execution that finishes, and one that is refused.
use Prim.Native.Nat.{ℕ, ◌-◌, ◌^◌, ◌≤◌, ◌<◌}
use mathlib.Core.Path.{◌≡◌, refl, sym, ap, ◌∙◌}
use mathlib.Core.List.{List, [], ◌++◌}
use mathlib.Core.Bool.{Bool}
use native.Mathlib.Omega.{arith}
use Rattle.std.proofs.lemmas.Bool.{eqb-false}
use lib.ListN.{length, take, drop, replicate}
use lib.Seq.{take-take, take_at}
use Rattle.rules.specs.Image.{Header, header_of, Parts, parts_of}
use Rattle.rules.specs.Form.{Verdict}
use Rattle.records.specs.Refusals.{number_of, as_verdict, counted}
use Rattle.records.specs.declared.refusal.Refusal.{Refusal}
use Rattle.records.specs.declared.refusal.Rule.{Rule}
use Rattle.std.specs.Prelude.{Result, Ok, Err, ⊤}
use Rattle.rules.specs.Tree.{body_of}
use Rattle.rules.specs.Machine.{Out, done, stop}
use Rattle.rules.specs.Run.{Given, room_before, last_of, execution, entry_refusal, refused_run, trace_after, work_after}
use Rattle.rules.specs.Promised.{Ran}
use Rattle.laws.specs.Entries.{few_events}
use Rattle.entry.proofs.Outcomes.{run-refused, refused-trace, run-finished, run-stopped, execution-is, cells_begin}
use Rattle.expressions.specs.Relations.{saturated, Matches, goes_on, is_stopped}
use Rattle.expressions.specs.Standing.{ran, came}
use Rattle.expressions.specs.Trace.{traced_none}
use Rattle.expressions.specs.declared.trace.Trace.{Trace}
use Rattle.records.specs.Slots.{Table}
use Rattle.runner.specs.Runs.{as_given, Ready, cells_of, slots_begun, Begins, Executed, Worked, Finished}
use Rattle.runner.proofs.Program.{keeps, inside, world, starting, stands, last_one}

-- ---- the execution

module _ {h : Header} {s : Parts} {works : ℕ} {lengths store : List ℕ} (R : Ready h s works lengths store) (inverse : Bool) (trace trace' : Trace) (r : Result ⊤ Refusal)
    (slots slots' slots'' : Table) (cells cells'' : List ℕ) (p n : ℕ) where
  pub executes : p ≡ h.procedures - 1 → n ≡ (last_of h s).body → length slots ≡ 1024 → length slots' ≡ 1024 → slots' ≡ slots_begun h s lengths (length store) slots
      → cells ≡ store ++ replicate (room_before h s h.variables) 0 → trace.events.now ≡ replicate (length trace.events.now) 0 → trace.run.entries ≡ 0
      → Executed s inverse p n cells slots' trace cells'' slots'' r trace'
      → Matches (execution h s (as_given [] inverse lengths store 0 trace.run.left 0)) cells'' trace'.events.now (came r trace')
  unfolding body_of world
  executes ep en long long' es ec et e₀ f =
      rw (execution-is h s (as_given [] inverse lengths store 0 trace.run.left 0) (keeps R).some)
      ((rw (ep, en, e₀) at f) (world R) (starting R) (stands R slots slots' long long' es) ((world R).within (h.procedures - 1) (last_one R))
      (record { memory = store ++ replicate (room_before h s h.variables) 0; left = trace.run.left; events = [] })
      (record { going = refl; memory_is = sym ec; left_is = refl; traced = traced_none _ et })).is

  -- The same over the first of the work words.
  pub worked : (work copied rest : List ℕ) (total : ℕ) → work ≡ replicate works 0 → copied ≡ store ++ drop (length store) work → total ≡ cells_of h s (length store) → length cells'' ≡ total
      → p ≡ h.procedures - 1 → n ≡ (last_of h s).body → length slots ≡ 1024 → length slots' ≡ 1024 → slots' ≡ slots_begun h s lengths (length store) slots
      → cells ≡ take total copied → Begins work trace
      → Executed s inverse p n cells slots' trace cells'' slots'' r trace'
      → Worked h s inverse lengths store trace (cells'' ++ rest) r trace'
  worked work copied rest total ew ek et el ep en long long' es ec b f =
      let begin : cells ≡ store ++ replicate (room_before h s h.variables) 0 =
      ec ∙ rw (et, ek, ew) (cells_begin store (room_before h s h.variables) works (omega (arith, (inside R).room, (inside R).enough))) in
      let front : take (cells_of h s (length store)) (cells'' ++ rest) ≡ cells'' = take_at cells'' rest _ (el ∙ et) in
      record { is = rw front (executes ep en long long' es begin b.trace_value b.none f) }

-- ---- the answer

-- The count of entries is exact below 2^64.
exact : (n : ℕ) → n < 2 ^ 64 → saturated n ≡ n
unfolding saturated
exact n l = omega arith

-- No rule has the number 0.
pub some_number : (r : Rule) → number_of r ≡ 0 → ⊥
some_number r z = eqb-false (number_of r) 0 (counted r) z

module _ (g : Given) where
  -- 1 to 22: the run has not begun.
  pub ran-refused : ((entry_refusal g).number ≡ 0 → ⊥) → (v : Verdict) → v ≡ entry_refusal g → (steps entries : ℕ) → steps ≡ 0 → entries ≡ 0
      → (work trace : List ℕ) → work ≡ replicate g.works 0 → trace ≡ replicate g.room 0 → Ran g v.number v.place steps entries g.store work trace
  unfolding refused_run work_after
  ran-refused n v ev steps entries es ee work trace ew et = rw ev (record {
    number_is = rw (run-refused g n);
    place_is = rw (run-refused g n);
    steps_are = es ∙ sym (rw (run-refused g n));
    entries_are = ee ∙ sym (rw (run-refused g n));
    store_is = rw (run-refused g n);
    work_is = ew;
    trace_is = et ∙ sym (refused-trace g n);
  })

  module _ (let_in : (entry_refusal g).number ≡ 0) (small : g.budget < 2 ^ 32) (cells : ℕ) (enough : length g.store ≤ cells)
      (work trace stored' work' : List ℕ) (left entries : ℕ) (long : length trace ≡ g.room) (works : length work ≡ g.works) where
    take_front : take (length g.store) (take cells work) ≡ take (length g.store) work
    take_front = take-take (length g.store) cells work enough

    -- What the verdict says is what the execution came to.
    pub ran-ended : (verdict : Result ⊤ Refusal) → Finished g.store work verdict stored' work' → (o : Out) → execution (header_of g.image) (parts_of g.image) g ≡ o
        → Matches o (take cells work) trace (ran verdict left entries)
        → Ran g (as_verdict verdict).number (as_verdict verdict).place (g.budget - left) entries stored' work' trace
    unfolding work_after trace_after
    ran-ended (Ok x) end (done c) e (goes_on m) =
        let R = run-finished g let_in c e in
        let few : length c.events < 2 ^ 64 = rw R at (few_events g small) in
        record {
          number_is = sym (rw R);
          place_is = sym (rw R);
          steps_are = ap (λ k. g.budget - k) (sym m.left_is) ∙ sym (rw R);
          entries_are = m.traced.counted ∙ exact _ few ∙ sym (rw R);
          store_is = end.stored_is ∙ rw (R, m.memory_is) (sym take_front);
          work_is = end.work_is ∙ ap (λ k. replicate k 0) works;
          trace_is = m.traced.shown ∙ rw (long, R);
        }
    ran-ended (Ok x) end (stop k n c) e (is_stopped m) = absurd (omega (arith, m.number_is, m.refusal))
    ran-ended (Err r) end (done c) e (goes_on m) = absurd (some_number r.rule m.going)
    ran-ended (Err r) end (stop k n c) e (is_stopped m) =
        let R = run-stopped g let_in k n c e in
        let few : length c.events < 2 ^ 64 = rw R at (few_events g small) in
        record {
          number_is = m.number_is ∙ sym (rw R);
          place_is = m.place_is ∙ sym (rw R);
          steps_are = ap (λ k. g.budget - k) (sym m.left_is) ∙ sym (rw R);
          entries_are = m.traced.counted ∙ exact _ few ∙ sym (rw R);
          store_is = end.stored_is ∙ sym (rw R);
          work_is = end.work_is ∙ ap (λ k. replicate k 0) works;
          trace_is = m.traced.shown ∙ rw (long, R);
        }
