-- What demand 3 says of two keys: one accepted program without unsafe look-ups, over two stores that differ at most in secret cells.
-- Each line is read off `secret`.
use Rattle.std.specs.Prelude.{◌≡◌, ◌⊎◌, T}
use Rattle.std.proofs.Common.{sym, inl, inr}
use Rattle.std.proofs.Math.Path.{ap₂}
use Rattle.std.proofs.Math.Logic.{dite}
use Rattle.std.proofs.Math.Decide.{ℕ_discrete}
use Rattle.rules.specs.Check.{verdict, without_unsafe}
use Rattle.rules.specs.Run.{Given, run, fitted, trace_after}
use Rattle.laws.specs.Entry.{WellFormed}
use Rattle.laws.specs.Secret.{EqualButStore, AgreePublic, Alike, secret}

pub record TwoKeys (g h : Given) : Type 0 where
  pub equal : EqualButStore g h
  pub accepted : (verdict g.image).number ≡ 0
  pub safe : T (without_unsafe g.image)
  pub one : WellFormed g
  pub other : WellFormed h
  pub public : AgreePublic g h

module _ (g h : Given) (k : TwoKeys g h) (g-27 : (run g).number ≡ 27 → ⊥) where
  alike : ((run h).number ≡ 27 → ⊥) → Alike g (run g) (run h)
  alike h-27 = (secret g h k.equal k.accepted k.safe k.one k.other k.public).0 g-27 h-27

  -- The step count and the trace do not show which key it was, nor does the slice that holds the trace.
  pub same-steps : ((run h).number ≡ 27 → ⊥) → (run g).steps ≡ (run h).steps
  same-steps h-27 = (alike h-27).steps

  pub same-events : ((run h).number ≡ 27 → ⊥) → (run g).events ≡ (run h).events
  same-events h-27 = (alike h-27).events

  pub same-slice : ((run h).number ≡ 27 → ⊥) → trace_after g ≡ trace_after h
  unfolding trace_after
  same-slice h-27 = ap₂ fitted k.equal.room (alike h-27).events

  -- A run that is refused otherwise than with 27 is refused alike with every key, at the same place, or with 27.
  pub same-refusal : ((run h).number ≡ 27) ⊎ (((run h).number ≡ (run g).number) × ((run h).place ≡ (run g).place))
  same-refusal = dite (ℕ_discrete (run h).number 27) (λ e. inl e) (λ h-27. inr (sym (alike h-27).number, sym (alike h-27).place))
