-- The shifts lose no bit, so they are the definition's products and quotients.
use Rattle.std.proofs.Common.{◌≡◌, ℕ, ◌≤◌, ◌+◌, ◌-◌, ◌*◌, ◌/◌, ◌%◌, ◌^◌, ◌<◌, sym, subst, arith}
use Rattle.rules.specs.Words.{rotated_left}
use Rattle.numbers.specs.Laws.{rotated_left-word}
use Rattle.words.proofs.Machine.{left_by_shifts}
use Rattle.words.proofs.turned_left.Goals as goal

turned : (z by x low : ℕ) → by < z → z ≤ 64 → low ≡ x % 2 ^ (z - by) → low * 2 ^ by % 2 ^ 64 + x / 2 / 2 ^ (z - by - 1) ≡ rotated_left z by x
turned z by x low below within e = rw e (left_by_shifts z by x 64 below within)

pub overflow_add-result : goal.overflow_add-result
overflow_add-result c =
    let args = c.args in
    let fits = rotated_left-word args.z args.by args.x 64 c.requires.0 c.requires.1 (omega arith) in
    record { fits = subst (λ n. n < 2 ^ 64) (sym (turned args.z args.by args.x _ c.requires.0 c.requires.1 c.cut.ensures)) fits }

pub returns : goal.returns
returns c = turned c.args.z c.args.by c.args.x _ c.requires.0 c.requires.1 c.cut.ensures
