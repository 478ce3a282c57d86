-- One name after the other.
use Rattle.walker.specs.Simple.{share-first, share-second}
use Rattle.walker.proofs.Walk.either_in_index.Goals as goal

pub returns-then-index_occurs : goal.returns-then-index_occurs
returns-then-index_occurs c = λ h s g. share-first _ _ _ (c.index_occurs.ensures h s g) c.if-index_occurs.true

pub returns-else-index_occurs : goal.returns-else-index_occurs
returns-else-index_occurs c = λ h s g. share-second _ _ _ (c.index_occurs.ensures h s g) c.if-index_occurs.false (c.index_occurs-else-index_occurs.ensures h s g)
