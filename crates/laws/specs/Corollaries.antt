-- What demand 2 says of sealing and opening: what a run has sealed, its inverse opens, word for word; and the other way round.
-- Each is read off `reversible`; what demand 3 says of two keys stands in CorollariesSecret.
use Rattle.std.specs.Prelude.{ℕ, ◌≤◌, List, ◌≡◌, refl, Bool, true, false, cond, eqb}
use Rattle.std.proofs.Common.{sym, ◌∙◌}
use native.Mathlib.Omega.{arith}
use Rattle.rules.specs.Words.{Direction, forward, inverse, opposite}
use Rattle.rules.specs.Image.{header_of, parts_of}
use Rattle.rules.specs.Machine.{Out, done, stop}
use Rattle.rules.specs.Run.{Given, entry_refusal, execution, outcome_of, refused_run, run}
use Rattle.laws.specs.Entry.{entry_read, run-accepted}
use Rattle.laws.specs.Reversible.{reversible}

-- What g is given, but for direction and store.
abbrev pub lending : Given → Direction → List ℕ → Given
lending g d store = record { image = g.image; direction = d; lengths = g.lengths; store = store; works = g.works; budget = g.budget; room = g.room }

pub steps_within : (g : Given) → (run g).steps ≤ g.budget
unfolding run
steps_within g = either (eqb (entry_refusal g).number 0)
  where
    outcome : (o : Out) → (outcome_of g o).steps ≤ g.budget
    outcome (done c) = unfold outcome_of in omega arith
    outcome (stop k n c) = unfold outcome_of in omega arith

    either : (b : Bool) → (cond b (outcome_of g (execution (header_of g.image) (parts_of g.image) g)) (refused_run g (entry_refusal g))).steps ≤ g.budget
    either true = outcome (execution (header_of g.image) (parts_of g.image) g)
    either false = unfold refused_run in omega arith

-- A finished run, and the run in the other direction over what it left.
pub there_and_back : (g : Given) → (run g).number ≡ 0
    → ((run (lending g (opposite g.direction) (run g).store)).number ≡ 0)
    × ((run (lending g (opposite g.direction) (run g).store)).steps ≡ (run g).steps)
    × ((run (lending g (opposite g.direction) (run g).store)).store ≡ g.store)
there_and_back g e = reversible g (lending g (opposite g.direction) (run g).store) e refl refl refl refl (entry_read g (run-accepted g e)).works (steps_within g)

-- A finished run followed by its inverse leaves the store word for word.
pub forward_then_inverse : (g : Given) (store : List ℕ) → (run (lending g forward store)).number ≡ 0
    → (run (lending g inverse (run (lending g forward store)).store)).store ≡ store
unfolding opposite
forward_then_inverse g store e = (there_and_back (lending g forward store) e).2

-- So does the inverse followed by the run forward.
pub inverse_then_forward : (g : Given) (store : List ℕ) → (run (lending g inverse store)).number ≡ 0
    → (run (lending g forward (run (lending g inverse store)).store)).store ≡ store
unfolding opposite
inverse_then_forward g store e = (there_and_back (lending g inverse store) e).2

opposite-twice : (d : Direction) → opposite (opposite d) ≡ d
unfolding opposite
opposite-twice forward = refl
opposite-twice inverse = refl

-- A run that finishes does so whenever the budget holds its steps: there and back, and there again.
pub enough : (g h : Given) → (run g).number ≡ 0 → h.image ≡ g.image → h.lengths ≡ g.lengths → h.direction ≡ g.direction → h.store ≡ g.store → 8192 ≤ h.works → (run g).steps ≤ h.budget
    → ((run h).number ≡ 0) × ((run h).steps ≡ (run g).steps) × ((run h).store ≡ (run g).store)
enough g h e image lengths direction store works budget =
    let back = lending g (opposite g.direction) (run g).store in
    let b = there_and_back g e in
    let r = reversible back h b.0 image lengths (direction ∙ sym (opposite-twice g.direction)) (store ∙ sym b.2) works (rw b.1 budget) in
    (r.0, r.1 ∙ b.1, r.2)
