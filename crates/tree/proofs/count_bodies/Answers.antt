-- The loop is its own tail: each turn counts one body more.
use mathlib.Core.Path.{ap, ◌∙◌}
use Rattle.rules.specs.Image as rules
use Rattle.tree.specs.Turns.{turn_next, turn_last}
use Rattle.tree.specs.Tally.{bodies-steps, bumped}
use Rattle.tree.proofs.count_bodies.Goals as goal

pub loop-p-preserved : goal.loop-p-preserved
loop-p-preserved c =
    turn_next _ _ (bodies-steps _) _ _ _ _ c.loop-p.invariant c.loop-p-test.true _
    (c.bump.ensures ∙ ap (λ (r : rules.Procedure). bumped c.loop-p.counts r.body) c.procedure_at.ensures)

pub returns : goal.returns
returns c = turn_last _ _ (bodies-steps _) _ _ _ _ c.loop-p.invariant c.loop-p-test.false
