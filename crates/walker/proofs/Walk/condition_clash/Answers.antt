-- The indices, then the condition.
use mathlib.Core.Path.{◌∙◌}
use Rattle.records.specs.Cases.{root-place}
use Rattle.walker.proofs.Walk.condition_clash.Goals as goal

pub returns-then-swap_clash : goal.returns-then-swap_clash
returns-then-swap_clash c = record { is = λ h s e l m. c.if-swap_clash.true ∙ rw (← c.swap_clash.ensures.is h s l m, c.if-swap_clash.true) }

pub returns-else-swap_clash : goal.returns-else-swap_clash
returns-else-swap_clash c = record {
  is = λ h s e l m.
      rw (← c.swap_clash.ensures.is h s l m, c.if-swap_clash.false, root-place h s c.args.left, root-place h s c.args.right, ← c.root.ensures, ← c.root-else-swap_clash.ensures) (c.either_occurs.ensures h s e);
}
