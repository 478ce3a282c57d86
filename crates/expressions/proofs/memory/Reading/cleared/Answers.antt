-- Every name of the range.
use Rattle.std.proofs.Common.{◌-◌, ◌≡◌, true, false, ap, ◌∙◌, rules, tests, arith}
use Rattle.std.specs.Prelude.{ℕ, Bool, List, refl}
use Rattle.std.specs.List.{range_with_len}
use Rattle.std.proofs.lemmas.Iterator.{cases_from_all, YieldsList-from_range}
use Rattle.rules.specs.Machine as machine
use Rattle.expressions.specs.Commands.{passing}
use Rattle.expressions.specs.Relations.{slot_of}
use Rattle.records.specs.Truth.{range_same}
use Rattle.expressions.proofs.Laws.{all_is}
use Rattle.expressions.proofs.memory.Reading.cleared.Goals as goal

pub returns : goal.returns
unfolding machine.cleared passing
returns c =
    let m = c.args.self.now in
    let passes : ℕ → Bool = λ x. passing c.args.secrecy (slot_of m.slots.now x) m.cells.now in
    let all : List ℕ → Bool = λ xs. machine.cleared c.args.secrecy (slot_of m.slots.now) xs m.cells.now in
    all_is all passes refl (λ _ _. refl) (range_with_len c.args.first (c.args.end - c.args.first)) _
    (cases_from_all _ _ _ (λ x. passes x ≡ true) (λ x. passes x ≡ false) c.all.ensures.ran
    (YieldsList-from_range c.args.first c.args.end (c.args.end - c.args.first) (cc) (omega arith)) (λ y q k. (search (rules, tests), search (rules, tests))) (λ y q k. search (rules, tests)))
    ∙ ap all (range_same _ _)
