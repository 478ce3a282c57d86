-- The condition's names are taken in, and looked for in what the branches change.
use Rattle.walker.specs.Judge.{stops, then-on}
use Rattle.walker.specs.Nested.{if_clash}
use Rattle.walker.proofs.Walk.if_rules.Goals as goal

pub returns-in_err-given : goal.returns-in_err-given
returns-in_err-given c = record { is = λ h s e y z. stops _ _ _ c.from_residual.ensures.1 c.in_err-given.ensures }

pub returns : goal.returns
returns c = record {
  is = λ h s e y z.
      then-on c.in_ok-given.ensures
      (rw (← if_clash c.new-used.ensures (c.insert_variables.ensures h s e) (c.either_changes.ensures.is h s y z)) c.given-2.ensures);
}
