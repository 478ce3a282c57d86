-- The bounds' names are taken in, and looked for in what the body changes.
use Rattle.walker.specs.Judge.{stops, then-on}
use Rattle.walker.specs.Nested.{for_clash}
use Rattle.walker.proofs.Walk.for_rules.Goals as goal

pub returns-in_err-given : goal.returns-in_err-given
returns-in_err-given c = record { is = λ h s a b t. stops _ _ _ c.from_residual.ensures.1 c.in_err-given.ensures }

pub returns : goal.returns
returns c = record {
  is = λ h s a b t.
      then-on c.in_ok-given.ensures
      (rw (← for_clash c.new-used.ensures (c.insert_variables.ensures h s a) (c.insert_variables-2.ensures h s b) (c.changes.ensures h s t)) c.given-2.ensures);
}
