-- The rows from x on are still to be set, and the next cell is the one behind the rooms before x.
use Rattle.std.proofs.Common.{◌≡◌, refl, sym, ◌∙◌, add-zero, arith}
use native.Mathlib.Nat.{sub-zero}
use Rattle.rules.specs.Run.{room_before}
use Rattle.entry.proofs.Rooms.{walked_none}
use Rattle.entry.proofs.Rows.{placed_more, placed_end, home-next, home-within, home-row}
use Rattle.entry.proofs.cells.place_locals.Goals as goal

pub loop-x-init : goal.loop-x-init
unfolding room_before
loop-x-init c = record { walked = walked_none _ _; next = sym (add-zero _); rest = rw sub-zero }

pub overflow_add-base : goal.overflow_add-base
overflow_add-base c = omega (arith, home-within _ _ _ _ _ _ c.loop-x.invariant.next c.local_at-local.ensures.read.1 c.loop-x-test.true c.requires.1)

pub loop-x-preserved : goal.loop-x-preserved
loop-x-preserved c =
    let read = c.local_at-local.ensures.read in
    let next = c.loop-x.invariant.next in
    record {
      walked = c.local_at-local.ensures.walked;
      next = home-next _ _ _ _ _ _ next read.1;
      rest = c.loop-x.invariant.rest ∙ placed_more _ _ _ _ _ c.loop-x-test.true _ (home-row _ _ _ _ _ _ _ next read.1 read.0) _ c.place.ensures _ refl;
    }

pub returns : goal.returns
returns c =
    let all : c.loop-x.x ≡ c.args.h.variables = omega arith in
    (c.loop-x.invariant.next ∙ rw all, sym (c.loop-x.invariant.rest ∙ placed_end _ _ _ _ _ c.loop-x-test.false))
