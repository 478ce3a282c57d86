-- The classes of the row one by one, and the five equations of the callees joined by the law of a node's references.
use Rattle.records.specs.Records.{as_node}
use Rattle.tree.specs.Tally.{node-tally}
use Rattle.tree.proofs.count_node.Goals as goal

pub returns : goal.returns
returns c =
    let k = c.classes_of-classes.ensures in
    node-tally (as_node c.args.r) _ _ _ _ k.a k.b k.c k.d
    _ _ _ _ _ _ c.count_field.ensures c.count_field-2.ensures c.count_field-3.ensures c.count_field-4.ensures c.bump.ensures
