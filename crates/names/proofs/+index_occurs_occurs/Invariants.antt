use Prim.Native.Nat.{◌+◌, ◌-◌, ◌*◌}
use Rattle.records.specs.LValues.{node_of_lvalue}
use Rattle.names.proofs.+index_occurs_occurs.Given as goal

abbrev pub decreases-index_occurs : goal.decreases-index_occurs
decreases-index_occurs l = (65535 - node_of_lvalue l.l) * 2

abbrev pub decreases-occurs : goal.decreases-occurs
decreases-occurs l = (65535 - l.n) * 2 + 1
