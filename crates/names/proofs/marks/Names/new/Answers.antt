-- No mark is set in an array of them.
use Rattle.names.specs.Marks.{no_marks}
use Rattle.names.proofs.marks.Names.new.Goals as goal

pub returns : goal.returns
returns c = no_marks
