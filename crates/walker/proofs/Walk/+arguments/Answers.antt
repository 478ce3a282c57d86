-- Along the chain, each by itself.
use Rattle.rules.specs.Walk.{arguments_refusal}
use Rattle.walker.specs.Judge.{stops, then-on, place_refusal}
use Rattle.walker.proofs.Walk.+arguments.Goals as goal

pub returns-in_default : goal.returns-in_default
unfolding arguments_refusal
returns-in_default t c = λ h s k Γ sc. rw (c.in_default.ensures.none h s k)

pub returns-in_err-place : goal.returns-in_err-place
unfolding arguments_refusal place_refusal
returns-in_err-place t c =
    λ h s k Γ sc.
    let g = c.in-Some.ensures.head h s k in
    rw g.is (stops _ _ _ c.from_residual.ensures.1 (c.in_err-place.ensures h s g.naming Γ sc))

pub returns : goal.returns
unfolding arguments_refusal place_refusal
returns t c =
    λ h s k Γ sc.
    let g = c.in-Some.ensures.head h s k in
    rw g.is (then-on (c.in_ok-place.ensures h s g.naming Γ sc) (c.arguments.ensures h s g.rest Γ sc))
