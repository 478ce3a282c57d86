-- The lengths before j fit and are summed; the sum is small, so it does not wrap.
use Rattle.std.proofs.Common.{◌≡◌, ◌+◌, sym, ap, ◌∙◌, cond, eqb, leb, get_or, length, arith}
use borrow.Author.Tests.{eq-eqb}
use Rattle.rules.specs.Image.{Variable, is_array}
use Rattle.records.specs.Parts.{as_parts}
use Rattle.entry.proofs.Lengths.{fits_one, fitted_none, fitted-more, fitted-stop, fitted-all, summed_all}
use Rattle.entry.proofs.refusals.lengths_fit.Goals as goal

pub loop-j-init : goal.loop-j-init
loop-j-init c = fitted_none _ _ _

pub returns-then-not-length_fits : goal.returns-then-not-length_fits
returns-then-not-length_fits c =
    let n = get_or c.args.lengths.now c.loop-j.j 0 in
    let test_is : fits_one (as_parts c.args.parts.now) (c.args.first + c.loop-j.j) n ≡ c.length_fits.result = sym (c.length_fits.ensures ∙ ap (λ (v : Variable). cond (is_array v) (leb n 4096) (eqb n 1)) c.variable_at-v.ensures) in
    rw (fitted-stop _ _ _ _ _ c.loop-j.invariant c.loop-j-test.true (test_is ∙ c.if-not-length_fits.true), eq-eqb (length c.args.lengths.now) c.args.parameters (omega arith))

pub loop-j-preserved : goal.loop-j-preserved
loop-j-preserved c =
    let n = get_or c.args.lengths.now c.loop-j.j 0 in
    let test_is : fits_one (as_parts c.args.parts.now) (c.args.first + c.loop-j.j) n ≡ c.length_fits.result = sym (c.length_fits.ensures ∙ ap (λ (v : Variable). cond (is_array v) (leb n 4096) (eqb n 1)) c.variable_at-v.ensures) in
    fitted-more _ _ _ _ _ c.loop-j.invariant c.loop-j-test.true (test_is ∙ c.if-not-length_fits.false)

pub returns : goal.returns
returns c = rw (fitted-all _ _ _ _ _ c.loop-j.invariant c.loop-j-test.false, summed_all _ _ _ c.loop-j.invariant.summed c.loop-j-test.false, eq-eqb (length c.args.lengths.now) c.args.parameters (omega arith))
