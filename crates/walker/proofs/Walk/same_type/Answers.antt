-- The secrecies, then the sizes.
use mathlib.Core.Path.{ap₂, ◌∙◌}
use borrow.Author.Tests.{eq-eqb, ne_eqb}
use Rattle.rules.specs.Walk.{same_type}
use Rattle.walker.specs.Judge.{read}
use Rattle.walker.proofs.Walk.same_type.Goals as goal

pub returns-then-v-w : goal.returns-then-v-w
unfolding same_type
returns-then-v-w c = record { is = λ s own. rw (eq-eqb _ _ c.if-v-w.true) at (ap₂ same_type (read s own _ c.variable-v.ensures) (read s own _ c.variable-w.ensures)) }

pub returns-else-v-w : goal.returns-else-v-w
unfolding same_type
returns-else-v-w c = record {
  is = λ s own. ne_eqb _ _ c.if-v-w.false ∙ rw (ne_eqb _ _ c.if-v-w.false) at (ap₂ same_type (read s own _ c.variable-v.ensures) (read s own _ c.variable-w.ensures));
}
