-- The classes of the row one by one, and the five equations of the callees joined by the law of what a node places.
use Rattle.records.specs.Records.{as_node}
use Rattle.tree.specs.Places.{node-placed}
use Rattle.tree.proofs.place_children.Goals as goal

pub returns : goal.returns
returns c =
    let k = c.classes_of-classes.ensures in
    node-placed c.args.own (as_node c.args.r) _ _ _ _ k.a k.b k.c k.d
    _ _ _ _ _ _ c.place_child.ensures c.place_child-2.ensures c.place_child-3.ensures c.place_child-4.ensures c.place_node.ensures
