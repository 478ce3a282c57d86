-- The lengths before j are summed, and the rows from j on are still to be set.
use Rattle.std.proofs.Common.{sym, ◌∙◌, add_assoc, add-zero, arith}
use native.Mathlib.Nat.{sub-zero}
use Rattle.entry.proofs.Lengths.{summed_none, summed_more}
use Rattle.entry.proofs.Rows.{placed_more, placed_end, store_row}
use Rattle.entry.proofs.cells.place_store.Goals as goal

pub loop-j-init : goal.loop-j-init
loop-j-init c = record { summed = summed_none _; rest = rw (add-zero, sub-zero) }

pub overflow_cast-cells : goal.overflow_cast-cells
overflow_cast-cells c = omega (arith, (summed_more _ _ _ c.loop-j.invariant.summed c.loop-j-test.true).sums, c.requires.2)

pub overflow_add-base : goal.overflow_add-base
overflow_add-base c = omega (arith, (summed_more _ _ _ c.loop-j.invariant.summed c.loop-j-test.true).sums, c.requires.2)

pub loop-j-preserved : goal.loop-j-preserved
loop-j-preserved c =
    let summed = c.loop-j.invariant.summed in
    record {
      summed = summed_more _ _ _ summed c.loop-j-test.true;
      rest = c.loop-j.invariant.rest ∙ placed_more _ _ _ _ _ c.loop-j-test.true _ (store_row _ _ _ _ _ summed c.loop-j-test.true _ c.variable_at-v.ensures) _ c.place.ensures _ (sym (add_assoc _ _ 1));
    }

pub returns : goal.returns
returns c = sym (c.loop-j.invariant.rest ∙ placed_end _ _ _ _ _ c.loop-j-test.false)
