use Rattle.entry.proofs.Copies.{Copied}
use Rattle.entry.proofs.work.copy_out.Given as goal

abbrev pub invariant-loop-i : goal.invariant-loop-i
invariant-loop-i l = Copied l.work l.fn.store l.store l.i
