use Prim.Native.Nat.{◌-◌}
use mathlib.Core.Path.{◌≡◌}
use Rattle.rules.specs.Walk.{walk_refusal}
use Rattle.rules.specs.Check.{slow}
use Rattle.records.specs.Records.{as_header}
use Rattle.records.specs.Parts.{as_parts}
use Rattle.checker.proofs.walk.Given as goal

abbrev pub invariant-loop-p : goal.invariant-loop-p
invariant-loop-p l =
    walk_refusal slow (as_header l.h) (as_parts l.parts) 0 l.h.procedures ≡ walk_refusal slow (as_header l.h) (as_parts l.parts) l.p (l.h.procedures - l.p)
