use Prim.Native.Nat.{◌+◌, ◌-◌, ◌*◌}
use Rattle.names.proofs.+changes_list_changes.Given as goal

abbrev pub decreases-changes : goal.decreases-changes
decreases-changes l = (65535 - l.n) * 2 + 1

abbrev pub decreases-list_changes : goal.decreases-list_changes
decreases-list_changes l = (65535 - l.n) * 2 + 2
