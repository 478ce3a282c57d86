-- The parameters before j have no wide cell; the cells of parameter j are searched by its size.
use Rattle.std.proofs.Common.{ap, arith}
use Rattle.rules.specs.Image.{Variable}
use Rattle.entry.proofs.Searches.{found-below}
use Rattle.entry.proofs.Wide.{narrow-none, narrow-more, narrow-stop, narrow-end, within_store}
use Rattle.entry.proofs.refusals.first_wide_cell.Goals as goal

pub loop-j-init : goal.loop-j-init
loop-j-init c = narrow-none _ _ _ _

pub overflow_add-end : goal.overflow_add-end
overflow_add-end c = omega (arith, within_store _ _ _ _ _ _ c.loop-j.invariant c.requires.1 c.loop-j-test.true, c.well_formed)

pub offset_bounds-store-from : goal.offset_bounds-store-from
offset_bounds-store-from c = omega (arith, within_store _ _ _ _ _ _ c.loop-j.invariant c.requires.1 c.loop-j-test.true, c.well_formed)

pub slice_bounds-first_wide_in-end : goal.slice_bounds-first_wide_in-end
slice_bounds-first_wide_in-end c = omega (arith, within_store _ _ _ _ _ _ c.loop-j.invariant c.requires.1 c.loop-j-test.true)

pub overflow_add-result : goal.overflow_add-result
overflow_add-result c =
    let at = narrow-stop _ _ _ _ _ _ c.loop-j.invariant c.requires.1 c.loop-j-test.true _ (ap (λ (v : Variable). v.size) c.variable_at-v.ensures) _ c.first_wide_in.ensures _ c.in-Some.is in
    omega (arith, found-below _ _ _ at, c.well_formed)

pub returns-in-Some : goal.returns-in-Some
returns-in-Some c = narrow-stop _ _ _ _ _ _ c.loop-j.invariant c.requires.1 c.loop-j-test.true _ (ap (λ (v : Variable). v.size) c.variable_at-v.ensures) _ c.first_wide_in.ensures _ c.in-Some.is

pub loop-j-preserved : goal.loop-j-preserved
loop-j-preserved c = narrow-more _ _ _ _ _ _ c.loop-j.invariant c.requires.1 c.loop-j-test.true _ (ap (λ (v : Variable). v.size) c.variable_at-v.ensures) _ c.first_wide_in.ensures c.in_default.is

pub returns : goal.returns
returns c = narrow-end _ _ _ _ _ _ c.loop-j.invariant c.requires.1 c.loop-j-test.false
