use Prim.Native.Nat.{◌+◌, ◌-◌, ◌*◌}
use Rattle.records.specs.LValues.{node_of_lvalue}
use Rattle.walker.proofs.Walk.+element_expression_value.Given as goal

abbrev pub decreases-element : goal.decreases-element
decreases-element l = (65535 - node_of_lvalue l.l) * 3

abbrev pub decreases-value : goal.decreases-value
decreases-value l = (65535 - node_of_lvalue l.l) * 3 + 1

abbrev pub decreases-expression : goal.decreases-expression
decreases-expression l = (65535 - l.n) * 3 + 2
