-- Every name of the range.
use Rattle.std.proofs.Common.{◌+◌, ◌<◌, ◌≡◌, true, false, rules, tests, arith}
use Rattle.std.proofs.lemmas.Iterator.{cases_from_all, YieldsList-from_range}
use Rattle.rules.specs.Walk.{declarable}
use Rattle.records.specs.Records.{as_procedure}
use Rattle.names.specs.Marks.{most}
use Rattle.walker.specs.Nested.{every_is}
use Rattle.walker.proofs.nested.can_declare_all.Goals as goal

pub returns : goal.returns
returns c =
    λ D m.
    every_is (declarable (as_procedure c.args.q) D) c.args.x c.args.count _ c.requires
    (cases_from_all _ _ _ (λ y. y < most → declarable (as_procedure c.args.q) D y ≡ true) (λ y. y < most → declarable (as_procedure c.args.q) D y ≡ false) c.all.ensures.ran
    (YieldsList-from_range c.args.x (c.args.x + c.args.count) c.args.count (cc) (omega arith)) (λ y q k. (search (rules, tests), λ l. search (rules, tests))) (λ y q k l. search (rules, tests)))
