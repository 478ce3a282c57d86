-- The arguments, then 11 and 12.
use Rattle.rules.specs.Walk.{stmt_refusal}
use Rattle.walker.specs.Judge.{stops, then-on}
use Rattle.walker.specs.Simple.{call_known, call_chain, call_means}
use Rattle.walker.proofs.Walk.call.Goals as goal

pub arguments-requires : goal.arguments-requires
arguments-requires c = call_known c.requires.0

pub returns-in_err-arguments : goal.returns-in_err-arguments
unfolding stmt_refusal
returns-in_err-arguments c = λ h s st. record {
  is = λ Γ D sc own.
      let k = call_chain c.requires.0 st in
      rw (call_means c.requires.0 st).1 (stops _ _ _ c.from_residual.ensures.1 (c.in_err-arguments.ensures h s k Γ sc));
}

pub arguments_clash-requires : goal.arguments_clash-requires
arguments_clash-requires c = call_known c.requires.0

pub returns-in_err-given : goal.returns-in_err-given
unfolding stmt_refusal
returns-in_err-given c = λ h s st. record {
  is = λ Γ D sc own.
      let k = call_chain c.requires.0 st in
      rw ((call_means c.requires.0 st).1, ← c.arguments_clash.ensures h s k)
      (then-on (c.in_ok-arguments.ensures h s k Γ sc) (stops _ _ _ c.from_residual-in_err-given.ensures.1 c.in_err-given.ensures));
}

pub call_fits-requires : goal.call_fits-requires
call_fits-requires c = (call_known c.requires.0, c.requires.1)

pub returns : goal.returns
unfolding stmt_refusal
returns c = λ h s st. record {
  is = λ Γ D sc own.
      let k = call_chain c.requires.0 st in
      rw ((call_means c.requires.0 st).1, ← c.arguments_clash.ensures h s k, ← c.call_fits.ensures h s k sc.own own)
      (then-on (c.in_ok-arguments.ensures h s k Γ sc) (then-on c.in_ok-given.ensures c.given-2.ensures));
}
