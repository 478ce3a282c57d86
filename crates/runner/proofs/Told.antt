-- What a run is answered, in every case: refused by the check, refused by 19 to 22, or told by its execution.
use Prim.Native.Nat.{ℕ, ◌^◌, ◌<◌}
use mathlib.Core.Path.{◌≡◌, sym, ap, ◌∙◌}
use mathlib.Core.List.{List}
use mathlib.Core.Bool.{Bool}
use native.Mathlib.Omega.{arith}
use lib.ListN.{length}
use Rattle.std.specs.Prelude.{Result, Ok, Err, ⊤}
use Rattle.rules.specs.Image.{header_of, parts_of}
use Rattle.rules.specs.Form.{Verdict}
use Rattle.rules.specs.Check.{verdict}
use Rattle.rules.specs.Run.{Given, entry_refusal}
use Rattle.records.specs.Refusals.{as_verdict}
use Rattle.records.specs.declared.refusal.Refusal.{Refusal}
use Rattle.entry.specs.Refusals.{entry_tests}
use Rattle.entry.proofs.Outcomes.{refused-first}
use Rattle.expressions.specs.declared.trace.Trace.{Trace}
use Rattle.runner.specs.Runs.{as_given, cells_of, Begins, Worked, Finished, RanBy}
use Rattle.runner.proofs.Endings.{some_number, ran-refused, ran-ended}
use Rattle.runner.proofs.Entrance.{late, same-execution}

module _ (image : List ℕ) (inverse : Bool) (lengths store work : List ℕ) (trace : Trace) (begins : Begins work trace) where
  abbrev given : Given
  given = as_given image inverse lengths store (length work) trace.run.left (length trace.events.now)

  refused_by : (r : Refusal) → as_verdict (Err r) ≡ entry_refusal given → RanBy image inverse lengths store work trace (Err r) store work trace
  refused_by r told =
      ran-refused given (λ z. some_number r.rule (ap (λ (x : Verdict). x.number) told ∙ z)) (as_verdict (Err r)) told _ _ (omega arith) begins.none
      work trace.events.now begins.work_value begins.trace_value

  -- "The check's refusals come first".
  pub ran-unchecked : (r : Refusal) → as_verdict (Err r) ≡ verdict image → RanBy image inverse lengths store work trace (Err r) store work trace
  ran-unchecked r ev = refused_by r (ev ∙ sym (refused-first given (λ z. some_number r.rule (ap (λ (x : Verdict). x.number) ev ∙ z))))

  module _ (passed : (verdict image).number ≡ 0) where
    told : (v : Result ⊤ Refusal) → as_verdict v ≡ entry_tests (header_of image) (parts_of image) (length work) lengths store → as_verdict v ≡ entry_refusal given
    told v ev = late image passed (length work) lengths store inverse trace.run.left (length trace.events.now) (as_verdict v) ev

    -- "then 19 to 22".
    pub ran-late : (r : Refusal) → as_verdict (Err r) ≡ entry_tests (header_of image) (parts_of image) (length work) lengths store
        → RanBy image inverse lengths store work trace (Err r) store work trace
    ran-late r ev = refused_by r (told (Err r) ev)

    pub ran-through : (x : ⊤) → as_verdict (Ok x) ≡ entry_tests (header_of image) (parts_of image) (length work) lengths store → trace.run.left < 2 ^ 32
        → (work₁ stored' work' : List ℕ) (r : Result ⊤ Refusal) (trace' : Trace)
        → length trace'.events.now ≡ length trace.events.now → length work₁ ≡ length work
        → Worked (header_of image) (parts_of image) inverse lengths store trace work₁ r trace' → Finished store work₁ r stored' work'
        → RanBy image inverse lengths store work trace r stored' work' trace'
    ran-through x ev small work₁ stored' work' r trace' long wide w f =
        ran-ended given (ap (λ (z : Verdict). z.number) (sym (told (Ok x) ev))) small (cells_of (header_of image) (parts_of image) (length store)) (omega arith)
        work₁ trace'.events.now stored' work' trace'.run.left trace'.run.entries long wide r f _
        (same-execution image passed (length work) lengths store inverse trace.run.left (length trace.events.now)) w.is
