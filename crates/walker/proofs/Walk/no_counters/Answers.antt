-- Every name of the range.
use Rattle.std.proofs.Common.{◌+◌, ◌<◌, ◌≡◌, true, false, not, rules, tests, arith}
use Rattle.std.proofs.lemmas.Iterator.{cases_from_all, YieldsList-from_range}
use Rattle.rules.specs.Image.{is_counter}
use Rattle.rules.specs.Walk.{type_of}
use Rattle.names.specs.Marks.{most}
use Rattle.walker.specs.Nested.{every_is}
use Rattle.walker.proofs.Walk.no_counters.Goals as goal

pub returns : goal.returns
returns c = record {
  is = λ s own.
      every_is (λ y. not (is_counter (type_of s y))) c.args.x c.args.count _ c.requires
      (cases_from_all _ _ _ (λ y. y < most → not (is_counter (type_of s y)) ≡ true) (λ y. y < most → not (is_counter (type_of s y)) ≡ false) c.all.ensures.ran
      (YieldsList-from_range c.args.x (c.args.x + c.args.count) c.args.count (cc) (omega arith)) (λ y q k. (search (rules, tests), λ l. search (rules, tests))) (λ y q k l. search (rules, tests)));
}
