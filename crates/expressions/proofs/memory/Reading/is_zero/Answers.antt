-- Every cell of the variable.
use Rattle.std.proofs.Common.{◌+◌, ◌≡◌, true, false, sym, ◌∙◌, rules, tests, arith}
use Rattle.std.specs.Prelude.{ℕ, Bool, eqb, get_or, refl}
use Rattle.std.specs.List.{range_with_len}
use Rattle.std.proofs.lemmas.Iterator.{cases_from_all, YieldsList-from_range}
use Rattle.rules.specs.Walk.{every}
use Rattle.expressions.specs.Relations.{slot_of}
use Rattle.expressions.proofs.Laws.{all_is, zeros-every}
use Rattle.expressions.proofs.memory.Reading.is_zero.Goals as goal

pub returns : goal.returns
unfolding every
returns c =
    let x = slot_of c.args.self.now.slots.now c.args.x in
    let zero : ℕ → Bool = λ j. eqb (get_or c.args.self.now.cells.now j 0) 0 in
    all_is (every zero) zero refl (λ _ _. refl) (range_with_len x.base x.cells) _
    (cases_from_all _ _ _ (λ j. zero j ≡ true) (λ j. zero j ≡ false) c.all.ensures.ran
    (YieldsList-from_range x.base (x.base + x.cells) x.cells (search rules) (omega arith)) (λ y q k. (search (rules, tests), search (rules, tests))) (λ y q k. search (rules, tests)))
    ∙ sym (zeros-every _ _ _)
