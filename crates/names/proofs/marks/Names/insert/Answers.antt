-- A name's own mark is set; past the last there is no name.
use Rattle.names.specs.Marks.{adds_one}
use Rattle.names.proofs.marks.Names.insert.Goals as goal

pub returns : goal.returns
returns c = λ l. rw (c.put.ensures, c.from.ensures) (adds_one _ _ l)
