use Prim.Native.Nat.{◌+◌, ◌-◌, ◌*◌}
use Rattle.walker.proofs.Walk.+block_for_statement_if_statement_list_statement.Given as goal

abbrev pub decreases-block : goal.decreases-block
decreases-block l = (65535 - l.n) * 4 + 1

abbrev pub decreases-for_statement : goal.decreases-for_statement
decreases-for_statement l = (65535 - l.n) * 4 + 1

abbrev pub decreases-if_statement : goal.decreases-if_statement
decreases-if_statement l = (65535 - l.n) * 4 + 1

abbrev pub decreases-list : goal.decreases-list
decreases-list l = (65535 - l.n) * 4 + 3

abbrev pub decreases-statement : goal.decreases-statement
decreases-statement l = (65535 - l.n) * 4 + 2
