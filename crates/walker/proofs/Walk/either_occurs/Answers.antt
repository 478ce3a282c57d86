-- One name after the other.
use Rattle.walker.specs.Simple.{share-first, share-second}
use Rattle.walker.proofs.Walk.either_occurs.Goals as goal

pub returns-then-occurs : goal.returns-then-occurs
returns-then-occurs c = λ h s st. share-first _ _ _ (c.occurs.ensures h s st) c.if-occurs.true

pub returns-else-occurs : goal.returns-else-occurs
returns-else-occurs c = λ h s st. share-second _ _ _ (c.occurs.ensures h s st) c.if-occurs.false (c.occurs-else-occurs.ensures h s st)
