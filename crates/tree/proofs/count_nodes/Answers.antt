-- The loop is its own tail: each turn counts one node more.
use mathlib.Core.Path.{ap, ◌∙◌}
use Rattle.rules.specs.Tree.{references_of}
use Rattle.rules.specs.Image as rules
use Rattle.tree.specs.Turns.{turn_next, turn_last}
use Rattle.tree.specs.Tally.{nodes_steps, tally}
use Rattle.tree.proofs.count_nodes.Goals as goal

pub loop-n-preserved : goal.loop-n-preserved
loop-n-preserved c =
    turn_next _ _ (nodes_steps _) _ _ _ _ c.loop-n.invariant c.loop-n-test.true _
    (c.count_node.ensures ∙ ap (λ (r : rules.Node). tally (references_of r) c.loop-n.counts) c.record_at.ensures)

pub returns : goal.returns
returns c = turn_last _ _ (nodes_steps _) _ _ _ _ c.loop-n.invariant c.loop-n-test.false
