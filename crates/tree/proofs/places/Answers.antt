-- The first places of an array that stand nowhere stand nowhere.
use Rattle.std.proofs.Common.{rules}
use Rattle.tree.specs.Places.{nowhere-cut}
use Rattle.tree.proofs.places.Goals as goal

pub places_by-requires : goal.places_by-requires
places_by-requires c = (c.requires, nowhere-cut _ c.args.h.nodes 4096 _ c.from.ensures c.requires (search rules))
