-- Each way out is one law of Lent. The measure is the distance from the last number: what follows an argument goes to a larger one, or is missing.
use mathlib.Core.Path.{refl, sym, ap, ◌∙◌}
use native.Mathlib.Omega.{arith}
use Rattle.rules.specs.Tree.{Reading, reading_at}
use Rattle.expressions.specs.Meaning.{program-missing, argument_place, argument_indexed, argument_found, next-falls, next-chained}
use Rattle.expressions.specs.Results.{passed_on}
use Rattle.expressions.proofs.Lent.{lends_none, lends_refused, lends_on}
use Rattle.expressions.proofs.lending.+arguments.Goals as goal

pub returns-then-n-eq-MISSING-clause-apart : goal.returns-then-n-eq-MISSING-clause-apart
returns-then-n-eq-MISSING-clause-apart t c =
    λ h s p ρ lo hi agree within below. lends_none ρ _ _
    (ap (λ m. (reading_at h s m).as_arguments) c.if-n-eq-MISSING.true ∙ ap (λ (x : Reading). x.as_arguments) (program-missing h s p)) c.args.slots.now 0

pub returns-in_default-clause-apart : goal.returns-in_default-clause-apart
returns-in_default-clause-apart t c =
    λ h s p ρ lo hi agree within below. absurd (argument_found (c.requires.chained c.if-n-eq-MISSING.false) (sym c.in_default.ensures))

pub address-requires : goal.address-requires
address-requires t c = argument_indexed (c.requires.chained c.if-n-eq-MISSING.false) _ (sym c.in-Some.ensures)

pub returns-in_err-i-clause-apart : goal.returns-in_err-i-clause-apart
returns-in_err-i-clause-apart t c =
    let placed = sym c.in-Some.ensures in
    λ h s p ρ lo hi agree within below.
    rw (passed_on _ c.from_residual.ensures.1) (lends_refused ρ _ _ _ _ (argument_place (c.requires.chained c.if-n-eq-MISSING.false) h s p _ placed _ refl) _ lo hi agree within below _
    (c.in_err-i.ensures.finds h s p))

pub arguments-requires : goal.arguments-requires
arguments-requires t c =
    let placed = sym c.in-Some.ensures in
    let f = next-falls (c.requires.chained c.if-n-eq-MISSING.false) _ placed _ c.next_at-next.ensures in
    (omega (arith, f, c.decreases), (next-chained (c.requires.chained c.if-n-eq-MISSING.false) _ placed _ c.next_at-next.ensures, omega (arith, f, c.requires.n_bound)))

pub returns-clause-apart : goal.returns-clause-apart
returns-clause-apart t c =
    let placed = sym c.in-Some.ensures in
    λ h s p ρ lo hi agree within below.
    lends_on ρ _ _ _ _ (argument_place (c.requires.chained c.if-n-eq-MISSING.false) h s p _ placed _ c.next_at-next.ensures) _ lo hi agree within below
    _ (c.in_ok-i.ensures.finds h s p) _ c.lend.ensures.long c.lend.ensures.apart (λ small room. c.lend.ensures.lends small room h s) _ _ _
    (c.arguments.ensures.apart h s p ρ lo hi)
