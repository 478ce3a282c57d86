-- The library's search, by what its test says of one node.
use Rattle.std.proofs.Common.{rules, ℕ, eqb, get_or, arith}
use Rattle.tree.proofs.Ranges.{found-range}
use Rattle.tree.proofs.first_not_once.Goals as goal

pub returns : goal.returns
returns c =
    let passes = λ (n : ℕ). eqb (get_or c.args.counts.now n 0) 1 in
    found-range passes c.args.count _ _ _ _ (omega arith) c.find.ensures.ran (λ n q h. search rules) (λ n q h. search rules)
