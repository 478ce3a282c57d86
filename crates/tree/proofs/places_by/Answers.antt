-- The places that the callees leave are those of the rules.
use mathlib.Core.Path.{◌∙◌}
use Rattle.records.specs.Records.{as_header}
use Rattle.records.specs.Parts.{as_parts}
use Rattle.tree.specs.Places.{bodies-at-most, places_refused}
use Rattle.tree.proofs.places_by.Goals as goal

pub place_all-requires : goal.place_all-requires
place_all-requires c = (c.requires.0, bodies-at-most c.args.h.nodes _ _ _ _ c.requires.1 c.place_bodies.ensures)

pub returns : goal.returns
returns c =
    c.lowest.ensures
    ∙ places_refused (as_header c.args.h) (as_parts c.args.parts.now) _ _ _ c.requires.1 c.place_bodies.ensures c.place_all.ensures _ c.first_out_of_place.ensures
