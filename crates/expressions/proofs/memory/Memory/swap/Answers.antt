-- Cells and slots are put back where they were taken.
use mathlib.Core.Path.{refl, ap, ◌∙◌}
use Rattle.std.specs.Prelude.{length}
use Rattle.expressions.proofs.memory.Memory.swap.Goals as goal

pub returns-clause-keeps : goal.returns-clause-keeps
returns-clause-keeps c = (refl, c.take-slots.ensures.value, ap (λ r. r.ghost_name) c.take-cells.ensures.value, c.swap-verdict.auto.cells ∙ ap (λ r. length r.now) c.take-cells.ensures.value)
