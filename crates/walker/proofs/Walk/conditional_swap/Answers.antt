-- Condition and both targets, then 10, 11 and 12.
use mathlib.Core.Path.{refl, ap, ◌∙◌}
use Rattle.rules.specs.Image.{is_secret}
use Rattle.rules.specs.Walk.{stmt_refusal}
use Rattle.names.specs.Sound.{means, refers, standing_child, known_child}
use Rattle.names.specs.Statements.{known_target, conditional_left, conditional_right}
use Rattle.walker.specs.Judge.{stops, then-on, place_refusal, read}
use Rattle.walker.specs.Simple.{secret-target, same-roots}
use Rattle.walker.proofs.Walk.conditional_swap.Goals as goal

pub expression-requires : goal.expression-requires
expression-requires c = known_child c.requires.known c.requires.is (λ h s r. r.0)

pub returns-in_err-secret : goal.returns-in_err-secret
unfolding stmt_refusal place_refusal
returns-in_err-secret c = λ h s st. record {
  is = λ p Γ D sc. let d = c.requires.is in rw (means st d) (stops _ _ _ c.from_residual.ensures.1 (c.in_err-secret.ensures h s (standing_child st (refers st d).0) Γ sc).is);
}

pub place-requires : goal.place-requires
place-requires c = known_target c.requires.known c.requires.is (λ h s r. r.1.0)

pub returns-in_err-place : goal.returns-in_err-place
unfolding stmt_refusal place_refusal
returns-in_err-place c = λ h s st. record {
  is = λ p Γ D sc.
      let d = c.requires.is in
      rw (means st d)
      (then-on (c.in_ok-secret.ensures h s (standing_child st (refers st d).0) Γ sc).is
      (stops _ _ _ c.from_residual-in_err-place.ensures.1 (c.in_err-place.ensures h s (conditional_left st d) Γ sc)));
}

pub place-requires-2 : goal.place-requires-2
place-requires-2 c = known_target c.requires.known c.requires.is (λ h s r. r.1.1)

pub returns-in_err-place-2 : goal.returns-in_err-place-2
unfolding stmt_refusal place_refusal
returns-in_err-place-2 c = λ h s st. record {
  is = λ p Γ D sc.
      let d = c.requires.is in
      rw (means st d)
      (then-on (c.in_ok-secret.ensures h s (standing_child st (refers st d).0) Γ sc).is
      (then-on (c.in_ok-place.ensures h s (conditional_left st d) Γ sc)
      (stops _ _ _ c.from_residual-in_err-place-2.ensures.1 (c.in_err-place-2.ensures h s (conditional_right st d) Γ sc))));
}

pub returns-in_err-given : goal.returns-in_err-given
unfolding stmt_refusal place_refusal
returns-in_err-given c = λ h s st. record {
  is = λ p Γ D sc.
      let d = c.requires.is in
      let e = c.in_ok-secret.ensures h s (standing_child st (refers st d).0) Γ sc in
      rw (
        means st d,
        ← e.type _ refl,
        ← secret-target h s c.args.left c.root.ensures (c.is_secret.ensures ∙ ap is_secret (read s sc.own _ c.variable.ensures)),
        ← secret-target h s c.args.right c.root-2.ensures (c.is_secret-2.ensures ∙ ap is_secret (read s sc.own _ c.variable-2.ensures)),
      )
      (then-on e.is (then-on (c.in_ok-place.ensures h s (conditional_left st d) Γ sc) (then-on (c.in_ok-place-2.ensures h s (conditional_right st d) Γ sc)
      (stops _ _ _ c.from_residual-in_err-given.ensures.1 c.in_err-given.ensures))));
}

pub condition_clash-requires : goal.condition_clash-requires
condition_clash-requires c = (
  known_child c.requires.known c.requires.is (λ h s r. r.0),
  known_target c.requires.known c.requires.is (λ h s r. r.1.0),
  known_target c.requires.known c.requires.is (λ h s r. r.1.1),
)

pub returns-in_err-given-2 : goal.returns-in_err-given-2
unfolding stmt_refusal place_refusal
returns-in_err-given-2 c = λ h s st. record {
  is = λ p Γ D sc.
      let d = c.requires.is in
      let k = standing_child st (refers st d).0 in
      let l = conditional_left st d in
      let m = conditional_right st d in
      let e = c.in_ok-secret.ensures h s k Γ sc in
      rw (
        means st d,
        ← e.type _ refl,
        ← secret-target h s c.args.left c.root.ensures (c.is_secret.ensures ∙ ap is_secret (read s sc.own _ c.variable.ensures)),
        ← secret-target h s c.args.right c.root-2.ensures (c.is_secret-2.ensures ∙ ap is_secret (read s sc.own _ c.variable-2.ensures)),
        ← c.condition_clash.ensures.is h s k l m,
      )
      (then-on e.is (then-on (c.in_ok-place.ensures h s l Γ sc) (then-on (c.in_ok-place-2.ensures h s m Γ sc) (then-on c.in_ok-given.ensures
      (stops _ _ _ c.from_residual-in_err-given-2.ensures.1 c.in_err-given-2.ensures)))));
}

pub returns : goal.returns
unfolding stmt_refusal place_refusal
returns c = λ h s st. record {
  is = λ p Γ D sc.
      let d = c.requires.is in
      let k = standing_child st (refers st d).0 in
      let l = conditional_left st d in
      let m = conditional_right st d in
      let e = c.in_ok-secret.ensures h s k Γ sc in
      rw (
        means st d,
        ← e.type _ refl,
        ← secret-target h s c.args.left c.root.ensures (c.is_secret.ensures ∙ ap is_secret (read s sc.own _ c.variable.ensures)),
        ← secret-target h s c.args.right c.root-2.ensures (c.is_secret-2.ensures ∙ ap is_secret (read s sc.own _ c.variable-2.ensures)),
        ← c.condition_clash.ensures.is h s k l m,
        ← same-roots h s c.args.left c.args.right c.root-3.ensures c.root-4.ensures (c.same_type.ensures.is s sc.own),
      )
      (then-on e.is (then-on (c.in_ok-place.ensures h s l Γ sc) (then-on (c.in_ok-place-2.ensures h s m Γ sc) (then-on c.in_ok-given.ensures (then-on c.in_ok-given-2.ensures c.given-3.ensures)))));
}
