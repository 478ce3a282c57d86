-- A run by its ways out: refused by the check, refused by 19 to 22, or what its execution came to.
use Prim.Native.Nat.{ℕ, zero, suc, ◌+◌, ◌-◌, ◌≤◌}
use mathlib.Core.Path.{◌≡◌, refl, ap, ◌∙◌}
use mathlib.Core.List.{List, [], ◌++◌}
use native.Mathlib.Omega.{arith}
use native.Mathlib.Nat.{sub-zero}
use borrow.Author.Tests.{eq-eqb, ne_eqb}
use lib.Dec.{lit<, nltb→le}
use lib.ListN.{length, take, drop, replicate}
use lib.Seq.{take-nil, take-append-add}
use Rattle.std.proofs.lemmas.List.{drop-replicate, take-replicate}
use Rattle.rules.specs.Image.{Header, header_of, Parts, parts_of, procedure_of}
use Rattle.rules.specs.Form.{◌then◌}
use Rattle.rules.specs.Check.{verdict}
use Rattle.rules.specs.Tree.{body_of}
use Rattle.rules.specs.Machine.{State, done, stop, choose, exec}
use Rattle.rules.specs.Run.{Given, entry_refusal, execution, outcome_of, refused_run, run, trace_after, work_refusal, store_refusal, lengths_refusal, room_refusal, room_before, home, store_slots, env_of, calls_below, last_of}
use Rattle.entry.specs.Refusals.{entry_tests}
use Rattle.laws.specs.Verdicts.{is_true, then_both, given-passed, given_holds}
use Rattle.entry.proofs.Order.{Fitting, fitting-says}

-- ---- the refusals of a run

module _ (g : Given) where
  -- "The check's refusals come first"
  pub refused-first : ((verdict g.image).number ≡ 0 → ⊥) → entry_refusal g ≡ verdict g.image
  unfolding entry_refusal ◌then◌
  refused-first n = rw (ne_eqb _ _ n)

  -- "then 19 to 22 in order"
  pub checked_first : (verdict g.image).number ≡ 0 → entry_refusal g ≡ entry_tests (header_of g.image) (parts_of g.image) g.works g.lengths g.store
  unfolding entry_refusal ◌then◌
  checked_first e = rw (eq-eqb _ _ e)

  pub run-refused : ((entry_refusal g).number ≡ 0 → ⊥) → run g ≡ refused_run g (entry_refusal g)
  unfolding run
  run-refused n = rw (ne_eqb _ _ n)

  pub run-entered : (entry_refusal g).number ≡ 0 → run g ≡ outcome_of g (execution (header_of g.image) (parts_of g.image) g)
  unfolding run
  run-entered e = rw (eq-eqb _ _ e)

  -- A run that finishes: the store is what its cells hold.
  pub run-finished : (entry_refusal g).number ≡ 0 → (c : State) → execution (header_of g.image) (parts_of g.image) g ≡ done c
      → run g ≡ record { number = 0; place = 0; steps = g.budget - c.left; store = take (length g.store) c.memory; events = c.events }
  unfolding outcome_of
  run-finished e c is = run-entered e ∙ rw is

  -- A run that is refused on its way: "Every refusal leaves the store as at entry."
  pub run-stopped : (entry_refusal g).number ≡ 0 → (k n : ℕ) (c : State) → execution (header_of g.image) (parts_of g.image) g ≡ stop k n c
      → run g ≡ record { number = k; place = n; steps = g.budget - c.left; store = g.store; events = c.events }
  unfolding outcome_of
  run-stopped e k n c is = run-entered e ∙ rw is

  -- "Up to 22, steps, entries and trace are 0."
  pub refused-trace : ((entry_refusal g).number ≡ 0 → ⊥) → trace_after g ≡ replicate g.room 0
  unfolding trace_after refused_run
  refused-trace n = rw (run-refused n, take-nil, sub-zero)

-- An execution is that of the last procedure's body.
pub execution-is : (h : Header) (s : Parts) (g : Given) → 1 ≤ h.procedures
    → execution h s g
    ≡ exec (calls_below h s (home h s (length g.store)) (h.procedures - 1)) g.direction
    (env_of (home h s (length g.store)) (last_of h s) (store_slots s (last_of h s).first 0 g.lengths)) (body_of h s (h.procedures - 1))
    (record { memory = g.store ++ replicate (room_before h s h.variables) 0; left = g.budget; events = [] })
unfolding execution calls_below choose
execution-is h s g some = last h.procedures some
  where
    last : (n : ℕ) → 1 ≤ n
        → calls_below h s (home h s (length g.store)) n (n - 1) g.direction (store_slots s (last_of h s).first 0 g.lengths) (record { memory = g.store ++ replicate (room_before h s h.variables) 0; left = g.budget; events = [] })
        ≡ exec (calls_below h s (home h s (length g.store)) (n - 1)) g.direction
        (env_of (home h s (length g.store)) (procedure_of s.procedures (n - 1)) (store_slots s (last_of h s).first 0 g.lengths)) (body_of h s (n - 1))
        (record { memory = g.store ++ replicate (room_before h s h.variables) 0; left = g.budget; events = [] })
    last zero l = absurd (omega arith)
    last (suc n) l = let e : suc n - 1 ≡ n = omega arith in rw (e, eq-eqb n n refl)

-- ---- where none of 19 to 22 is given

pub record Entered (h : Header) (s : Parts) (works : ℕ) (lengths store : List ℕ) : Type 0 where
  pub enough : 8192 ≤ works
  pub fitting : Fitting s (last_of h s) lengths store
  pub room : length store + room_before h s h.variables ≤ 4096

pub entered : (h : Header) (s : Parts) (works : ℕ) (lengths store : List ℕ) → (entry_tests h s works lengths store).number ≡ 0 → Entered h s works lengths store
unfolding work_refusal store_refusal lengths_refusal room_refusal
entered h s works lengths store e =
    let a = then_both (work_refusal works) _ e in
    let b = then_both (store_refusal h s lengths store) _ a.1 in
    let c = then_both (lengths_refusal h s lengths store) _ b.0 in
    record {
      enough = nltb→le _ _ (given-passed 19 0 _ (lit< tt) a.0);
      fitting = fitting-says _ _ _ _ (is_true _ (given_holds 20 0 _ (lit< tt) c.0));
      room = nltb→le _ _ (given-passed 22 0 _ (lit< tt) b.1);
    }

-- ---- the cells

-- Work words that are 0, with the store copied in front: the cells at the start of a run are the first of them.
pub cells_begin : (store : List ℕ) (room works : ℕ) → length store + room ≤ works
    → take (length store + room) (store ++ drop (length store) (replicate works 0)) ≡ store ++ replicate room 0
cells_begin store room works l =
    take-append-add store (drop (length store) (replicate works 0)) room
    ∙ ap (λ xs. store ++ xs) (rw (drop-replicate {X = ℕ} (length store) works 0) (take-replicate {X = ℕ} room (works - length store) 0 (omega arith)))
