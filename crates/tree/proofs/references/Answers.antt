-- The counts begin at 0, so that one counted once is referred to exactly once.
use mathlib.Core.Path.{◌∙◌}
use lib.ListN.{replicate}
use Rattle.records.specs.Records.{as_header}
use Rattle.records.specs.Parts.{as_parts}
use Rattle.tree.specs.Tally.{references_refused}
use Rattle.tree.specs.Places.{zeros-at}
use Rattle.tree.proofs.references.Goals as goal

pub returns : goal.returns
returns c =
    c.lowest.ensures
    ∙ references_refused (as_header c.args.h) (as_parts c.args.parts.now) (replicate 4096 0) (zeros-at 4096) c.requires _ _ c.count_bodies.ensures c.count_nodes.ensures _ c.first_not_once.ensures
