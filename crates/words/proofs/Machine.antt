-- What the machine's operations, which cut at 64 bits, give at a size of z bits. The laws hold at any width w; the code's is 64.
use Rattle.std.proofs.Common.{◌≡◌, ℕ, zero, suc, ◌+◌, ◌-◌, ◌*◌, ◌/◌, ◌%◌, ◌^◌, ◌<◌, ◌≤◌, sym, ap, ◌∙◌, mod-lt, mod-eq_of_lt, zero-add, zero-mul, sub-add_cancel, div-one, arith, lit<, pow_pos, pow-add, shl_exact, shr-shr}
use native.Mathlib.Nat.{two-pow-succ}
use native.Mathlib.Nat.{mod-one, add-mod, mod-add-mod, add-mod-mod, add-mul-mod_self_right}
use lib.Pow.{high, ones_lt, ones_split, mod-mod-pow}
use Rattle.rules.specs.Words.{rotated_left, rotated_right}
use Rattle.numbers.specs.Numbers.{round}

-- A size is below its power of two.
below_pow : (z : ℕ) → z < 2 ^ z
below_pow zero = lit< tt
below_pow (suc z) = rw (two-pow-succ z) (omega (arith, below_pow z, pow_pos z))

-- A number of places below the size is what the rotation's two remainders leave of it.
pub places_below : (z v : ℕ) → v < z → v % 2 ^ z % z ≡ v
places_below z v h =
    let whole : v < 2 ^ z = omega (arith, below_pow z) in
    rw (mod-eq_of_lt whole) (mod-eq_of_lt h)

module _ (z w : ℕ) (within : z ≤ w) where
  -- The ones of a word, moved down until z are left.
  pub mask : (2 ^ w - 1) / 2 ^ (w - z) ≡ 2 ^ z - 1
  mask =
      let whole : z + (w - z) ≡ w = omega arith in
      ap (λ n. (2 ^ n - 1) / 2 ^ (w - z)) (sym whole)
      ∙ rw (ones_split z (w - z)) (high (2 ^ z - 1) (w - z) (ones_lt (w - z)))

  -- The z low bits of a word are those of the number that was cut to it.
  low_bits : (n : ℕ) → n % 2 ^ w % 2 ^ z ≡ n % 2 ^ z
  low_bits n = rw (sub-add_cancel within) at (mod-mod-pow n (w - z) z)

  pub increase-cut : (x v : ℕ) → (x + v) % 2 ^ w % 2 ^ z ≡ (x + v % 2 ^ z) % 2 ^ z
  increase-cut x v = low_bits (x + v) ∙ sym (add-mod-mod x v (2 ^ z))

  -- Both sides, with v added, are x modulo 2 ^ z.
  pub decrease_cut : (x v : ℕ) → v ≤ 2 ^ w → (x + (2 ^ w - v)) % 2 ^ w % 2 ^ z ≡ (x + (2 ^ z - v % 2 ^ z)) % 2 ^ z
  decrease_cut x v h =
      low_bits (x + (2 ^ w - v))
      ∙ sym (round (2 ^ z) _ (v % 2 ^ z) (2 ^ z - v % 2 ^ z) (mod-lt _ (pow_pos z)) (omega (arith, mod-lt v (pow_pos z))))
      ∙ ap (λ n. (n + (2 ^ z - v % 2 ^ z)) % 2 ^ z) added
      ∙ mod-add-mod x (2 ^ z) (2 ^ z - v % 2 ^ z)
    where
      added : ((x + (2 ^ w - v)) % 2 ^ z + v % 2 ^ z) % 2 ^ z ≡ x % 2 ^ z
      added =
          let back : x + (2 ^ w - v) + v ≡ x + 2 ^ w = omega arith in
          let blocks : 2 ^ w ≡ 2 ^ (w - z) * 2 ^ z = ap (λ n. 2 ^ n) (sym (sub-add_cancel within)) ∙ pow-add 2 (w - z) z in
          sym (add-mod (x + (2 ^ w - v)) v (2 ^ z))
          ∙ ap (λ n. n % 2 ^ z) (back ∙ ap (λ n. x + n) blocks)
          ∙ add-mul-mod_self_right x (2 ^ (w - z)) (2 ^ z)

-- A rotation by shifts: the low part goes up within the word, and the high part comes down by one place and then by the others.
pub left_by_shifts : (z r x w : ℕ) → r < z → z ≤ w
    → x % 2 ^ (z - r) * 2 ^ r % 2 ^ w + x / 2 / 2 ^ (z - r - 1) ≡ rotated_left z r x
unfolding rotated_left
left_by_shifts z r x w h within =
    let fits : z - r + r ≤ w = omega arith in
    let one_more : 1 + (z - r - 1) ≡ z - r = omega arith in
    rw (
      shl_exact (z - r) r w (mod-lt x (pow_pos (z - r))) fits,
      shr-shr x 1 (z - r - 1),
      one_more,
    )

pub right_by_none : (z x : ℕ) → rotated_right z 0 x ≡ x
unfolding rotated_right
right_by_none z x = simp (mod-one, div-one, zero-mul, zero-add)
