-- Every name can be declared, and none is a counter.
use mathlib.Core.Path.{ap, ◌∙◌}
use Rattle.rules.specs.Image as rules
use Rattle.rules.specs.Tree.{range}
use Rattle.rules.specs.Walk.{declarable, every}
use Rattle.walker.specs.Judge.{stops, then-on}
use Rattle.walker.specs.Nested.{read_own}
use Rattle.walker.proofs.Walk.block_rules.Goals as goal

pub returns-in_err-given : goal.returns-in_err-given
returns-in_err-given c = record {
  is = λ s D own procs m.
      rw (← c.can_declare_all.ensures D m ∙ ap (λ (q : rules.Procedure). every (declarable q D) (range c.args.x c.args.count)) (read_own s procs _ c.own.ensures))
      (stops _ _ _ c.from_residual.ensures.1 c.in_err-given.ensures);
}

pub returns : goal.returns
returns c = record {
  is = λ s D own procs m.
      rw (← c.can_declare_all.ensures D m ∙ ap (λ (q : rules.Procedure). every (declarable q D) (range c.args.x c.args.count)) (read_own s procs _ c.own.ensures), ← c.no_counters.ensures.is s own)
      (then-on c.in_ok-given.ensures c.given-2.ensures);
}
