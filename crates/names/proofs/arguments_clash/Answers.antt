-- The roots are taken in as they are passed; then the indices are, and the roots looked up.
use Rattle.names.specs.Marks.{clash_twice, clash_index}
use Rattle.names.proofs.arguments_clash.Goals as goal

pub returns-then-roots_repeat : goal.returns-then-roots_repeat
returns-then-roots_repeat c = λ h s k. clash_twice _ c.new-seen.ensures (c.roots_repeat.ensures h s k) c.if-roots_repeat.true

pub returns : goal.returns
returns c =
    λ h s k.
    clash_index _ c.new-seen.ensures (c.roots_repeat.ensures h s k) c.if-roots_repeat.false c.new-used.ensures (c.insert_indices.ensures h s k) (c.roots_marked.ensures h s k)
