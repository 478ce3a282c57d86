use Prim.Native.Nat.{◌+◌, ◌-◌, ◌*◌}
use Rattle.records.specs.LValues.{node_of_lvalue}
use Rattle.names.proofs.+insert_index_insert_variables.Given as goal

abbrev pub decreases-insert_index : goal.decreases-insert_index
decreases-insert_index l = (65535 - node_of_lvalue l.l) * 2

abbrev pub decreases-insert_variables : goal.decreases-insert_variables
decreases-insert_variables l = (65535 - l.n) * 2 + 1
