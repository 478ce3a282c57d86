use Rattle.entry.proofs.Copies.{Copied}
use Rattle.entry.proofs.work.copy_in.Given as goal

abbrev pub invariant-loop-i : goal.invariant-loop-i
invariant-loop-i l = Copied l.store l.fn.work l.work l.i
