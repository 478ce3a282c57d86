-- A name's own mark.
use Rattle.names.specs.Marks.{marked}
use Rattle.names.proofs.marks.Names.contains.Goals as goal

pub returns-clause-is : goal.returns-clause-is
unfolding marked
returns-clause-is c = rw c.get_or.ensures (rw c.from.ensures)

pub returns-clause-tells : goal.returns-clause-tells
unfolding marked
returns-clause-tells c = λ Γ m l. rw (c.get_or.ensures, c.from.ensures) (m.at _ l)
