-- Laws of plain numbers that the laws of words, and the proofs of the code, rest on: what undoes an addition modulo m, and that
-- an exclusive or undoes itself, digit by digit.
use Rattle.std.specs.Prelude.{ℕ, zero, suc, ◌+◌, ◌/◌, ◌%◌, ◌<◌, ◌≡◌, refl}
use Rattle.std.proofs.Common.{◌∙◌, ap, mod-eq_of_lt, div-add-mod', arith}
use Rattle.std.proofs.Math.Nat.{mod-add-mod, add-mod_right}
use Rattle.std.proofs.Math.Arith.{bin_ind, digits_div, digits_mod}
use Rattle.std.specs.Int.Bits.{bit_xor, differ, xor_step, xor_self}

-- To add p and then q comes round to the same number, where p and q make up the modulus.
pub round : (m x p q : ℕ) → x < m → p + q ≡ m → ((x + p) % m + q) % m ≡ x
round m x p q h e =
    let whole : x + p + q ≡ x + m = omega arith in
    mod-add-mod (x + p) m q ∙ ap (λ n. n % m) whole ∙ add-mod_right x m ∙ mod-eq_of_lt h

differ_bit : (a b : ℕ) → a < 2 → b < 2 → differ a b < 2
differ_bit zero b ha hb = hb
differ_bit (suc a) zero ha hb = ha
differ_bit (suc a) (suc b) ha hb = differ_bit a b (omega arith) (omega arith)

differ_twice : (a b : ℕ) → a < 2 → b < 2 → differ (differ a b) b ≡ a
differ_twice zero zero ha hb = refl
differ_twice zero (suc zero) ha hb = refl
differ_twice zero (suc (suc b)) ha hb = absurd (omega arith)
differ_twice (suc zero) zero ha hb = refl
differ_twice (suc zero) (suc zero) ha hb = refl
differ_twice (suc zero) (suc (suc b)) ha hb = absurd (omega arith)
differ_twice (suc (suc a)) b ha hb = absurd (omega arith)

pub xor_twice : (a b : ℕ) → bit_xor (bit_xor a b) b ≡ a
xor_twice = bin_ind (λ (n : ℕ). (b : ℕ) → bit_xor (bit_xor n b) b ≡ n) xor_self (λ n halves b. step n b (halves (b / 2)))
  where
    step : (n b : ℕ) → bit_xor (bit_xor (n / 2) (b / 2)) (b / 2) ≡ n / 2 → bit_xor (bit_xor n b) b ≡ n
    step n b halves =
        let n_bit : n % 2 < 2 = omega arith in
        let b_bit : b % 2 < 2 = omega arith in
        let low = differ_bit (n % 2) (b % 2) n_bit b_bit in
        xor_step (bit_xor n b) b
        ∙ rw (
          xor_step n b,
          digits_div (bit_xor (n / 2) (b / 2)) low,
          digits_mod (bit_xor (n / 2) (b / 2)) low,
          halves,
          differ_twice (n % 2) (b % 2) n_bit b_bit,
        ) (div-add-mod' n 2)
