-- The name can be declared, and it is a counter.
use mathlib.Core.Path.{ap, ◌∙◌}
use Rattle.rules.specs.Image as rules
use Rattle.rules.specs.Image.{is_counter}
use Rattle.rules.specs.Walk.{declarable}
use Rattle.walker.specs.Judge.{stops, then-on, read}
use Rattle.walker.specs.Nested.{read_own}
use Rattle.walker.proofs.Walk.counter_rules.Goals as goal

pub returns-in_err-given : goal.returns-in_err-given
returns-in_err-given c = record {
  is = λ s D own procs m l.
      rw (← c.can_declare.ensures D m l ∙ ap (λ (q : rules.Procedure). declarable q D c.args.x) (read_own s procs _ c.own.ensures))
      (stops _ _ _ c.from_residual.ensures.1 c.in_err-given.ensures);
}

pub returns : goal.returns
returns c = record {
  is = λ s D own procs m l.
      rw (← c.can_declare.ensures D m l ∙ ap (λ (q : rules.Procedure). declarable q D c.args.x) (read_own s procs _ c.own.ensures), ← c.is_counter.ensures ∙ ap is_counter (read s own _ c.variable.ensures))
      (then-on c.in_ok-given.ensures c.given-2.ensures);
}
