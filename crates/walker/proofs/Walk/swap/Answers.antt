-- Both targets, then 11 and 12.
use Rattle.rules.specs.Walk.{stmt_refusal}
use Rattle.names.specs.Sound.{means}
use Rattle.names.specs.Statements.{known_target, swap_left, swap_right}
use Rattle.walker.specs.Judge.{stops, then-on, place_refusal}
use Rattle.walker.specs.Simple.{same-roots}
use Rattle.walker.proofs.Walk.swap.Goals as goal

pub place-requires : goal.place-requires
place-requires c = known_target c.requires.known c.requires.is (λ h s r. r.0)

pub returns-in_err-place : goal.returns-in_err-place
unfolding stmt_refusal place_refusal
returns-in_err-place c = λ h s st. record {
  is = λ p Γ D sc. rw (means st c.requires.is) (stops _ _ _ c.from_residual.ensures.1 (c.in_err-place.ensures h s (swap_left st c.requires.is) Γ sc));
}

pub place-requires-2 : goal.place-requires-2
place-requires-2 c = known_target c.requires.known c.requires.is (λ h s r. r.1)

pub returns-in_err-place-2 : goal.returns-in_err-place-2
unfolding stmt_refusal place_refusal
returns-in_err-place-2 c = λ h s st. record {
  is = λ p Γ D sc.
      let d = c.requires.is in
      rw (means st d)
      (then-on (c.in_ok-place.ensures h s (swap_left st d) Γ sc) (stops _ _ _ c.from_residual-in_err-place-2.ensures.1 (c.in_err-place-2.ensures h s (swap_right st d) Γ sc)));
}

pub swap_clash-requires : goal.swap_clash-requires
swap_clash-requires c = (known_target c.requires.known c.requires.is (λ h s r. r.0), known_target c.requires.known c.requires.is (λ h s r. r.1))

pub returns-in_err-given : goal.returns-in_err-given
unfolding stmt_refusal place_refusal
returns-in_err-given c = λ h s st. record {
  is = λ p Γ D sc.
      let d = c.requires.is in
      let l = swap_left st d in
      let m = swap_right st d in
      rw (means st d, ← c.swap_clash.ensures.is h s l m)
      (then-on (c.in_ok-place.ensures h s l Γ sc) (then-on (c.in_ok-place-2.ensures h s m Γ sc) (stops _ _ _ c.from_residual-in_err-given.ensures.1 c.in_err-given.ensures)));
}

pub returns : goal.returns
unfolding stmt_refusal place_refusal
returns c = λ h s st. record {
  is = λ p Γ D sc.
      let d = c.requires.is in
      let l = swap_left st d in
      let m = swap_right st d in
      rw (means st d, ← c.swap_clash.ensures.is h s l m, ← same-roots h s c.args.left c.args.right c.root.ensures c.root-2.ensures (c.same_type.ensures.is s sc.own))
      (then-on (c.in_ok-place.ensures h s l Γ sc) (then-on (c.in_ok-place-2.ensures h s m Γ sc) (then-on c.in_ok-given.ensures c.given-2.ensures)));
}
