-- Laws of words: every value fits its size, every update is undone by the one that undoes it, and an exchange is undone by itself.
-- Each is a case for each operator, and each case one law of numbers.
use Rattle.std.specs.Prelude.{ℕ, zero, suc, ◌+◌, ◌-◌, ◌/◌, ◌%◌, ◌^◌, ◌≤◌, ◌<◌, ◌≡◌, refl, Bool, true, false, not, cond, ◌&&◌, eqb, leb, ltb}
use Rattle.std.proofs.Common.{sym, subst, ◌∙◌, le_of_lt, lt_of_le_of_lt, mod-lt, div-le_self, sub-add_cancel, arith, lit<, pow_pos, pow_mono, pow-add, shl_lt, shr_lt}
use Rattle.std.proofs.Math.Path.{ap}
use Rattle.std.proofs.Math.Logic.{dite}
use Rattle.std.proofs.Math.Nat.{mod-le, two-pow-succ}
use Rattle.std.proofs.Math.Decide.{dec_lt}
use Rattle.std.proofs.Math.Pow.{ones_sub-lt, high, low, split}
use Rattle.std.proofs.lemmas.Nat.{shr_le, or_lt, xor_lt}
use Rattle.std.proofs.Math.Arith.{digits_lt, sub-sub_self}
use Rattle.std.specs.Int.Bits.{and_lt}
use Rattle.rules.specs.Words.{Binary, plus, minus, times, quotient, remainder, conjunction, disjunction, exclusive}
use Rattle.rules.specs.Words.{equal, unequal, below, above, at_most, at_least, shift_left, shift_right, truth, operate, divides}
use Rattle.rules.specs.Words.{Unary, complement, operate1}
use Rattle.rules.specs.Words.{Update, increase, decrease, toggle, rotate_left, rotate_right, rotated_left, rotated_right, changed_by, undoing}
use Rattle.rules.specs.Words.{exchanged}
use Rattle.numbers.specs.Numbers.{round, xor_twice}

-- What an expression gives is a word.

truth-fits : (holds : Bool) → truth holds < 2 ^ 64
unfolding truth
truth-fits true = lit< tt
truth-fits false = lit< tt

shifted_fits : (within : Bool) {n : ℕ} → n < 2 ^ 64 → cond within n 0 < 2 ^ 64
shifted_fits true h = h
shifted_fits false h = pow_pos 64

pub operate-fits : (o : Binary) (a b : ℕ) → a < 2 ^ 64 → b < 2 ^ 64 → operate o a b < 2 ^ 64
unfolding operate
operate-fits plus a b ha hb = mod-lt _ (pow_pos 64)
operate-fits minus a b ha hb = mod-lt _ (pow_pos 64)
operate-fits times a b ha hb = mod-lt _ (pow_pos 64)
operate-fits quotient a b ha hb = lt_of_le_of_lt (div-le_self a b) ha
operate-fits remainder a b ha hb = lt_of_le_of_lt (mod-le a b) ha
operate-fits conjunction a b ha hb = and_lt 64 a b ha hb
operate-fits disjunction a b ha hb = or_lt 64 a b ha hb
operate-fits exclusive a b ha hb = xor_lt 64 a b ha hb
operate-fits equal a b ha hb = truth-fits (eqb a b)
operate-fits unequal a b ha hb = truth-fits (not (eqb a b))
operate-fits below a b ha hb = truth-fits (ltb a b)
operate-fits above a b ha hb = truth-fits (ltb b a)
operate-fits at_most a b ha hb = truth-fits (leb a b)
operate-fits at_least a b ha hb = truth-fits (leb b a)
operate-fits shift_left a b ha hb = shifted_fits (ltb b 64) (mod-lt _ (pow_pos 64))
operate-fits shift_right a b ha hb = shifted_fits (ltb b 64) (lt_of_le_of_lt (shr_le a b) ha)

pub operate1-fits : (o : Unary) (a : ℕ) → operate1 o a < 2 ^ 64
unfolding operate1
operate1-fits complement a = ones_sub-lt 64 a

-- Where the test for a zero divisor fails, an operator that divides has another.
pub divisor : (o : Binary) (b : ℕ) → (eqb b 0 && divides o) ≡ false → divides o ≡ true → 0 < b
divisor o zero test dividing = let never : ◌≡◌ {A = ℕ} 0 1 = cc in omega arith
divisor o (suc b) test dividing = omega arith

-- A rotation by r puts a number's high r bits and its others together the other way round. To turn right is to turn left by the
-- rest of the way round, so what holds of one holds of the other.
module _ (z r x : ℕ) (within : r ≤ z) where
  pub right_is_left : rotated_right z r x ≡ rotated_left z (z - r) x
  unfolding rotated_left rotated_right
  right_is_left = rw (sub-sub_self within)

  pub left_is_right : rotated_left z r x ≡ rotated_right z (z - r) x
  unfolding rotated_left rotated_right
  left_is_right = rw (sub-sub_self within)

  module _ (h : x < 2 ^ z) where
    high_fits : x / 2 ^ (z - r) < 2 ^ r
    high_fits = let whole : r + (z - r) ≡ z = omega arith in shr_lt r (z - r) (rw whole h)

    pub rotated_left-fits : rotated_left z r x < 2 ^ z
    unfolding rotated_left
    rotated_left-fits =
        let fits = digits_lt (mod-lt x (pow_pos (z - r))) high_fits in
        rw (sym (pow-add 2 (z - r) r) ∙ ap (λ n. 2 ^ n) (sub-add_cancel within)) at fits

    pub right_undoes_left : rotated_right z r (rotated_left z r x) ≡ x
    unfolding rotated_left rotated_right
    right_undoes_left = rw (low (x % 2 ^ (z - r)) r high_fits, high (x % 2 ^ (z - r)) r high_fits) (split x (z - r))

-- A whole word, turned as a cell of z bits, is a word still: at z = w it is the rotation, else its two parts are each below half a word.
pub rotated_left-word : (z r x w : ℕ) → r < z → z ≤ w → x < 2 ^ w → rotated_left z r x < 2 ^ w
unfolding rotated_left
rotated_left-word z r x w turn within fits = dite (dec_lt z w)
    (λ short.
    let whole : z - r + r ≡ z = omega arith in
    let rest : w - (z - r) + (z - r) ≡ w = omega arith in
    let below : suc (w - 1) ≡ w = omega arith in
    let up = rw whole at (shl_lt (z - r) r (mod-lt x (pow_pos (z - r)))) in
    let down : x / 2 ^ (z - r) < 2 ^ (w - (z - r)) = shr_lt (w - (z - r)) (z - r) (rw rest fits) in
    let low_half : 2 ^ z ≤ 2 ^ (w - 1) = pow_mono (omega arith) in
    let high_half : 2 ^ (w - (z - r)) ≤ 2 ^ (w - 1) = pow_mono (omega arith) in
    let halves : 2 ^ w ≡ 2 ^ (w - 1) + 2 ^ (w - 1) = ap (λ n. 2 ^ n) (sym below) ∙ two-pow-succ (w - 1) in
    omega arith)
    (λ long.
    let same : z ≡ w = omega arith in
    subst (λ n. rotated_left z r x < 2 ^ n) same (rotated_left-fits z r x (le_of_lt turn) (subst (λ n. x < 2 ^ n) (sym same) fits)))

module _ (z r x : ℕ) (within : r ≤ z) (h : x < 2 ^ z) where
  rest : z - r ≤ z
  rest = omega arith

  pub rotated_right-fits : rotated_right z r x < 2 ^ z
  rotated_right-fits = rw (right_is_left z r x within) (rotated_left-fits z (z - r) x rest h)

  pub left_undoes_right : rotated_left z r (rotated_right z r x) ≡ x
  left_undoes_right = rw (left_is_right z r _ within, right_is_left z r x within) (right_undoes_left z (z - r) x rest h)

-- What an update leaves in a cell of z bits fits it, and the update that undoes it brings back what was there.

value_fits : (z v : ℕ) → v % 2 ^ z < 2 ^ z
value_fits z v = mod-lt v (pow_pos z)

places_within : (z v : ℕ) → 0 < z → v % 2 ^ z % z ≤ z
places_within z v some = le_of_lt (mod-lt (v % 2 ^ z) some)

pub changed_by-fits : (u : Update) (z v x : ℕ) → 0 < z → x < 2 ^ z → changed_by u z v x < 2 ^ z
unfolding changed_by
changed_by-fits increase z v x some h = mod-lt _ (pow_pos z)
changed_by-fits decrease z v x some h = mod-lt _ (pow_pos z)
changed_by-fits toggle z v x some h = xor_lt z x (v % 2 ^ z) h (value_fits z v)
changed_by-fits rotate_left z v x some h = rotated_left-fits z (v % 2 ^ z % z) x (places_within z v some) h
changed_by-fits rotate_right z v x some h = rotated_right-fits z (v % 2 ^ z % z) x (places_within z v some) h

pub undone : (u : Update) (z v x : ℕ) → 0 < z → x < 2 ^ z → changed_by (undoing u) z v (changed_by u z v x) ≡ x
unfolding changed_by undoing
undone increase z v x some h = round (2 ^ z) x (v % 2 ^ z) (2 ^ z - v % 2 ^ z) h (omega (arith, value_fits z v))
undone decrease z v x some h = round (2 ^ z) x (2 ^ z - v % 2 ^ z) (v % 2 ^ z) h (omega (arith, value_fits z v))
undone toggle z v x some h = xor_twice x (v % 2 ^ z)
undone rotate_left z v x some h = right_undoes_left z (v % 2 ^ z % z) x (places_within z v some) h
undone rotate_right z v x some h = left_undoes_right z (v % 2 ^ z % z) x (places_within z v some) h

pub undoing-twice : (u : Update) → undoing (undoing u) ≡ u
unfolding undoing
undoing-twice increase = refl
undoing-twice decrease = refl
undoing-twice toggle = refl
undoing-twice rotate_left = refl
undoing-twice rotate_right = refl

-- A second exchange on the same condition brings back what was there.
pub exchanged-twice : (condition a b : ℕ) → exchanged condition (exchanged condition a b) (exchanged condition b a) ≡ a
unfolding exchanged
exchanged-twice condition a b = either (eqb condition 0)
  where
    either : (t : Bool) → cond t (cond t a b) (cond t b a) ≡ a
    either true = refl
    either false = refl

pub exchanged-fits : (n condition a b : ℕ) → a < n → b < n → exchanged condition a b < n
unfolding exchanged
exchanged-fits n condition a b ha hb = either (eqb condition 0)
  where
    either : (t : Bool) → cond t a b < n
    either true = ha
    either false = hb
