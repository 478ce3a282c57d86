-- The library's search, by what its test says of one node.
use Rattle.std.proofs.Common.{rules, arith}
use Rattle.tree.proofs.Ranges.{found-range}
use Rattle.tree.specs.Places.{stands_at}
use Rattle.tree.proofs.first_out_of_place.Goals as goal

pub returns : goal.returns
returns c =
    let passes = stands_at c.args.nodes.now c.args.places.now in
    found-range passes c.args.count _ _ _ _ (omega arith) c.find.ensures.ran (λ n q h. search rules) (λ n q h. search rules)
