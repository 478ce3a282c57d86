use Rattle.std.proofs.Common.{◌-◌}
use Rattle.rules.specs.Tree.{range}
use Rattle.names.specs.Marks.{Adds}
use Rattle.names.proofs.marks.Names.insert_range.Given as goal

abbrev pub invariant-loop-y : goal.invariant-loop-y
invariant-loop-y l = Adds l.initial.self l.self (range l.x (l.y - l.x))
