-- The second pass is asked only where the first accepts.
use Rattle.std.proofs.Common.{rules}
use Rattle.rules.specs.Tree.{tree_refusal}
use Rattle.records.specs.Refusals.{then-stops, then-on}
use Rattle.tree.proofs.tree.Goals as goal

pub returns-in_err-references : goal.returns-in_err-references
unfolding tree_refusal
returns-in_err-references c = search (rules, then-stops)

pub returns : goal.returns
unfolding tree_refusal
returns c = then-on c.in_ok-references.ensures c.places.ensures
