-- What rests on the laws of updates. It stands apart from them, so that a wrong law is refused by itself.
use Rattle.std.specs.Prelude.{ℕ, ◌^◌, ◌<◌, ◌≡◌}
use Rattle.std.proofs.Common.{sym, ◌∙◌}
use Rattle.std.proofs.Math.Path.{ap}
use Rattle.rules.specs.Words.{Direction, forward, inverse, opposite, going, Update, changed_by, undoing}
use Rattle.numbers.specs.Laws.{undone, undoing-twice}

-- Whichever way an update went, the other way brings back what was there.
pub going-back : (d : Direction) (u : Update) (z v x : ℕ) → 0 < z → x < 2 ^ z
    → changed_by (going (opposite d) u) z v (changed_by (going d u) z v x) ≡ x
unfolding going opposite
going-back forward u z v x some h = undone u z v x some h
going-back inverse u z v x some h =
    ap (λ w. changed_by w z v (changed_by (undoing u) z v x)) (sym (undoing-twice u))
    ∙ undone (undoing u) z v x some h
