-- The cells of the variables before x are summed.
use Rattle.std.proofs.Common.{refl, arith}
use Rattle.rules.specs.Run.{room_before}
use Rattle.records.specs.Records.{as_header}
use Rattle.records.specs.Parts.{as_parts}
use Rattle.entry.proofs.Rooms.{walked_none, room_next}
use Rattle.entry.proofs.cells.room.Goals as goal

pub loop-x-init : goal.loop-x-init
unfolding room_before
loop-x-init c = record { walked = walked_none _ _; summed = refl; small = omega arith }

pub loop-x-preserved : goal.loop-x-preserved
loop-x-preserved c = record {
  walked = c.local_at-local.ensures.walked;
  summed = omega (arith, room_next (as_header c.args.h) (as_parts c.args.parts.now) c.loop-x.x, c.local_at-local.ensures.read.1);
  small = omega arith;
}
