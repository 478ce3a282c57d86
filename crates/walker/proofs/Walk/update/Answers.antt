-- Target and value, then 10 and 11.
use mathlib.Core.Path.{refl, ap, ◌∙◌}
use Rattle.rules.specs.Image.{is_secret}
use Rattle.rules.specs.Walk.{stmt_refusal}
use Rattle.names.specs.Sound.{means, refers, standing_child, known_child}
use Rattle.names.specs.Statements.{known_target, update_target}
use Rattle.walker.specs.Judge.{stops, then-on, place_refusal, read}
use Rattle.walker.specs.Simple.{secret-target}
use Rattle.walker.proofs.Walk.update.Goals as goal

pub place-requires : goal.place-requires
place-requires c = known_target c.requires.known c.requires.is (λ h s r. r.0)

pub returns-in_err-place : goal.returns-in_err-place
unfolding stmt_refusal place_refusal
returns-in_err-place c = λ h s st. record {
  is = λ p Γ D sc. rw (means st c.requires.is) (stops _ _ _ c.from_residual.ensures.1 (c.in_err-place.ensures h s (update_target st c.requires.is) Γ sc));
}

pub expression-requires : goal.expression-requires
expression-requires c = known_child c.requires.known c.requires.is (λ h s r. r.1)

pub returns-in_err-secret : goal.returns-in_err-secret
unfolding stmt_refusal place_refusal
returns-in_err-secret c = λ h s st. record {
  is = λ p Γ D sc.
      let d = c.requires.is in
      rw (means st d)
      (then-on (c.in_ok-place.ensures h s (update_target st d) Γ sc)
      (stops _ _ _ c.from_residual-in_err-secret.ensures.1 (c.in_err-secret.ensures h s (standing_child st (refers st d).1) Γ sc).is));
}

pub returns-in_err-given : goal.returns-in_err-given
unfolding stmt_refusal place_refusal
returns-in_err-given c = λ h s st. record {
  is = λ p Γ D sc.
      let d = c.requires.is in
      let e = c.in_ok-secret.ensures h s (standing_child st (refers st d).1) Γ sc in
      rw (means st d, ← e.type _ refl, ← secret-target h s c.args.target c.root.ensures (c.is_secret-public.ensures ∙ ap is_secret (read s sc.own _ c.variable.ensures)))
      (then-on (c.in_ok-place.ensures h s (update_target st d) Γ sc) (then-on e.is (stops _ _ _ c.from_residual-in_err-given.ensures.1 c.in_err-given.ensures)));
}

pub update_clash-requires : goal.update_clash-requires
update_clash-requires c = (known_target c.requires.known c.requires.is (λ h s r. r.0), known_child c.requires.known c.requires.is (λ h s r. r.1))

pub returns : goal.returns
unfolding stmt_refusal place_refusal
returns c = λ h s st. record {
  is = λ p Γ D sc.
      let d = c.requires.is in
      let l = update_target st d in
      let v = standing_child st (refers st d).1 in
      let e = c.in_ok-secret.ensures h s v Γ sc in
      rw (means st d, ← e.type _ refl, ← secret-target h s c.args.target c.root.ensures (c.is_secret-public.ensures ∙ ap is_secret (read s sc.own _ c.variable.ensures)), ← c.update_clash.ensures.is h s l v)
      (then-on (c.in_ok-place.ensures h s l Γ sc) (then-on e.is (then-on c.in_ok-given.ensures c.given-2.ensures)));
}
