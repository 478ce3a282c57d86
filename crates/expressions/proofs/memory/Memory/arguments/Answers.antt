-- Cells and slots are put back where they were taken.
use mathlib.Core.Path.{refl, ap, ◌∙◌}
use Rattle.std.specs.Prelude.{length}
use Rattle.expressions.proofs.memory.Memory.arguments.Goals as goal

pub returns-clause-apart : goal.returns-clause-apart
returns-clause-apart c = rw (c.take-cells.ensures.value, c.take-slots.ensures.value) at c.arguments-verdict.ensures.apart

pub returns-clause-keeps : goal.returns-clause-keeps
returns-clause-keeps c = (refl, c.take-cells.ensures.value, ap (λ r. r.ghost_name) c.take-slots.ensures.value, c.arguments-verdict.auto.slots ∙ ap (λ r. length r.now) c.take-slots.ensures.value)
