-- `position` answers the first cell that does not fit, which is where the search ends.
use Rattle.std.proofs.Common.{◌≡◌, ◌<◌, ◌^◌, true, false, ltb, length, get_or, Some, None, Option, List, ℕ, Bool, rules, arith}
use borrow.Author.Tests.{tests}
use Rattle.std.specs.Option.{MatchOption}
use Rattle.std.specs.List.{AllWithin, HoldsAt}
use Rattle.std.proofs.lemmas.Iterator.{IsFirst-from_position, YieldsList-from_slice}
use Rattle.tree.specs.Search.{found, found-by}
use Rattle.entry.proofs.refusals.first_wide_in.Goals as goal

failing : (fits : ℕ → Bool) (xs : List ℕ) (r : Option ℕ)
    → MatchOption r (AllWithin (λ x. fits x ≡ true) xs 0 (length xs)) (λ i. (i < length xs) × HoldsAt (λ x. fits x ≡ false) xs i × AllWithin (λ x. fits x ≡ true) xs 0 i)
    → r ≡ found (λ i. fits (get_or xs i 0)) 0 (length xs)
failing fits xs None h = found-by _ 0 (length xs) (length xs) (omega arith) None (λ k l m. h k 0 l m)
failing fits xs (Some i) h = found-by _ 0 (length xs) (length xs) (omega arith) (Some i) (omega arith, h.0, h.1 0, λ k l m. h.2 k 0 l m)

pub returns : goal.returns
returns c =
    let xs = c.args.cells.now in
    let fits : ℕ → Bool = λ x. ltb x (2 ^ c.args.z) in
    failing fits xs _ (IsFirst-from_position _ _ _ (λ x. fits x ≡ false) (λ x. fits x ≡ true) c.position.ensures.ran (YieldsList-from_slice xs cc) (λ x q k. search (rules, tests)) (λ x q k. search (rules, tests)))
