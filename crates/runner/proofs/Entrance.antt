-- How a run is let in: what an accepted image says of the parts that are handed on, the refusals 19 to 22 as the run's, and the table of slots.
use Prim.Native.Nat.{ℕ, ◌-◌, ◌≤◌}
use mathlib.Core.Path.{◌≡◌, refl, sym, ◌∙◌}
use mathlib.Core.List.{List, []}
use mathlib.Core.Bool.{Bool}
use native.Mathlib.Omega.{arith}
use lib.ListN.{length}
use Rattle.std.specs.Prelude.{Result, ⊤}
use Rattle.rules.specs.Image.{Header, header_of, Parts, parts_of}
use Rattle.records.specs.declared.refusal.Refusal.{Refusal}
use Rattle.expressions.specs.declared.trace.Trace.{Trace}
use Rattle.rules.specs.Form.{Verdict}
use Rattle.rules.specs.Check.{slow, verdict}
use Rattle.rules.specs.Run.{entry_refusal, execution}
use Rattle.entry.proofs.Names.{formed, called}
use Rattle.entry.specs.Refusals.{Called, entry_tests}
use Rattle.laws.specs.Records.{sound}
use Rattle.entry.proofs.Outcomes.{checked_first}
use Rattle.runner.specs.Runs.{as_given, Ready, cells_of, Placing, Worked}
use Rattle.runner.proofs.Program.{keeps, inside, last_one}

-- ---- the image's parts

module _ (image : List ℕ) (passed : (verdict image).number ≡ 0) where
  pub last-called : Called (header_of image) (parts_of image)
  unfolding verdict
  last-called = called (formed (sound slow image passed))

  module _ (works : ℕ) (lengths store : List ℕ) where
    -- "then 19 to 22 in order": they are the run's.
    pub late : (inverse : Bool) (budget room : ℕ) (v : Verdict) → v ≡ entry_tests (header_of image) (parts_of image) works lengths store
        → v ≡ entry_refusal (as_given image inverse lengths store works budget room)
    late inverse budget room v ev = ev ∙ sym (checked_first (as_given image inverse lengths store works budget room) passed)

    pub ready : (entry_tests (header_of image) (parts_of image) works lengths store).number ≡ 0 → Ready (header_of image) (parts_of image) works lengths store
    ready z = record { image = image; passed = passed; header_is = refl; parts_are = refl; let_in = z }

    pub same-execution : (inverse : Bool) (budget room : ℕ)
        → execution (header_of image) (parts_of image) (as_given image inverse lengths store works budget room) ≡ execution (header_of image) (parts_of image) (as_given [] inverse lengths store 0 budget 0)
    unfolding execution
    same-execution inverse budget room = refl

-- What is known of a header and parts that are the image's.
pub tested : (image : List ℕ) (works : ℕ) (lengths store : List ℕ) (h : Header) (s : Parts) → h ≡ header_of image → s ≡ parts_of image
    → entry_tests h s works lengths store ≡ entry_tests (header_of image) (parts_of image) works lengths store
tested image works lengths store h s eh es = rw (eh, es)

pub worked-at : (image : List ℕ) (inverse : Bool) (lengths store : List ℕ) (trace : Trace) (work : List ℕ) (r : Result ⊤ Refusal) (trace' : Trace) (h : Header) (s : Parts)
    → h ≡ header_of image → s ≡ parts_of image → Worked h s inverse lengths store trace work r trace' → Worked (header_of image) (parts_of image) inverse lengths store trace work r trace'
worked-at image inverse lengths store trace work r trace' h s eh es w = rw (← eh, ← es) w

-- ---- the table of slots

module _ {h : Header} {s : Parts} {works : ℕ} {lengths store : List ℕ} (R : Ready h s works lengths store) where
  pub few_cells : cells_of h s (length store) ≤ 4096
  few_cells = (inside R).room

  pub enough : 8192 ≤ works
  enough = (inside R).enough

  pub placing : Placing h s lengths (length store) 1024
  placing =
      let last = (keeps R).procedure (h.procedures - 1) (last_one R) in
      let f = (inside R).fitting in
      record {
        some = (keeps R).some;
        rows_all = (keeps R).narrow;
        cells = (inside R).room;
        rows_store = omega (arith, last.end, last.parameters, f.counted, (keeps R).narrow);
        names = omega (arith, last.end, last.parameters, f.counted, (keeps R).narrow);
        whole = omega (arith, f.whole, (inside R).room);
      }
