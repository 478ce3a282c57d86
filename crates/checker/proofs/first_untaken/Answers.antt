-- The library's search, by what the set says of one name.
use Rattle.std.proofs.Common.{rules, arith, ◌-◌}
use borrow.Author.Tests.{tests}
use Rattle.tree.proofs.Ranges.{found-range}
use Rattle.names.specs.Marks.{marked}
use Rattle.checker.proofs.first_untaken.Goals as goal

pub returns : goal.returns
returns c =
    found-range (marked c.args.taken.now) (c.args.end - c.args.from) _ _ _ _ (omega arith) c.find.ensures.ran (λ x q h. search (rules, tests)) (λ x q h. search (rules, tests))
