-- Words and operators, as "The run" has them.
use Rattle.std.specs.Prelude.{ℕ, ◌+◌, ◌-◌, ◌*◌, ◌/◌, ◌%◌, ◌^◌, List, [], ◌∷◌, Bool, true, false, not, cond, get_or, eqb, leb, ltb}
use Rattle.std.specs.Int.Bits.{bit_and, bit_or, bit_xor}

-- "executes the last procedure forward or inverse"
pub data Direction : Type 0 where
  forward inverse : Direction

unfoldable pub opposite : Direction → Direction
opposite forward = inverse
opposite inverse = forward

-- The direction inside a statement that turns it, or does not: "a parity over uncalls".
unfoldable pub turned : Direction → Direction → Direction
turned forward d = d
turned inverse d = opposite d

-- "operator 1 to 16 for + - * / % & | ^ == != < > <= >= << >>"
pub data Binary : Type 0 where
  plus minus times quotient remainder conjunction disjunction exclusive equal unequal below above at_most at_least shift_left shift_right : Binary

abbrev pub binaries : List Binary
binaries =
    plus ∷ minus ∷ times ∷ quotient ∷ remainder ∷ conjunction ∷ disjunction ∷ exclusive
    ∷ equal ∷ unequal ∷ below ∷ above ∷ at_most ∷ at_least ∷ shift_left ∷ shift_right ∷ []

abbrev pub binary_of : ℕ → Binary
binary_of o = get_or binaries (o - 1) plus

-- "operator 1 to 5 for += -= ^= <<= >>="
pub data Update : Type 0 where
  increase decrease toggle rotate_left rotate_right : Update

abbrev pub updates : List Update
updates = increase ∷ decrease ∷ toggle ∷ rotate_left ∷ rotate_right ∷ []

abbrev pub update_of : ℕ → Update
update_of o = get_or updates (o - 1) increase

-- "26 bitwise not"
pub data Unary : Type 0 where
  complement : Unary

-- "True is 2^64-1, false 0."
unfoldable pub truth : Bool → ℕ
truth true = 2 ^ 64 - 1
truth false = 0

-- "Expressions are modulo 2^64." "A shift by 64 or more gives 0."
unfoldable pub operate : Binary → ℕ → ℕ → ℕ
operate plus a b = (a + b) % 2 ^ 64
operate minus a b = (a + (2 ^ 64 - b)) % 2 ^ 64
operate times a b = (a * b) % 2 ^ 64
operate quotient a b = a / b
operate remainder a b = a % b
operate conjunction a b = bit_and a b
operate disjunction a b = bit_or a b
operate exclusive a b = bit_xor a b
operate equal a b = truth (eqb a b)
operate unequal a b = truth (not (eqb a b))
operate below a b = truth (ltb a b)
operate above a b = truth (ltb b a)
operate at_most a b = truth (leb a b)
operate at_least a b = truth (leb b a)
operate shift_left a b = cond (ltb b 64) ((a * 2 ^ b) % 2 ^ 64) 0
operate shift_right a b = cond (ltb b 64) (a / 2 ^ b) 0

unfoldable pub operate1 : Unary → ℕ → ℕ
operate1 complement a = 2 ^ 64 - 1 - a

-- "25: zero divisor": the operators that divide
unfoldable pub divides : Binary → Bool
divides quotient = true
divides remainder = true
divides plus = false
divides minus = false
divides times = false
divides conjunction = false
divides disjunction = false
divides exclusive = false
divides equal = false
divides unequal = false
divides below = false
divides above = false
divides at_most = false
divides at_least = false
divides shift_left = false
divides shift_right = false

-- A cell of size z turned by r below z places.
unfoldable pub rotated_left : ℕ → ℕ → ℕ → ℕ
rotated_left z r x = x % 2 ^ (z - r) * 2 ^ r + x / 2 ^ (z - r)

unfoldable pub rotated_right : ℕ → ℕ → ℕ → ℕ
rotated_right z r x = x % 2 ^ r * 2 ^ (z - r) + x / 2 ^ r

-- "An update cuts its value to the target's size z and works modulo 2^z; rotation is by the amount modulo z."
unfoldable pub changed_by : Update → ℕ → ℕ → ℕ → ℕ
changed_by increase z v x = (x + v % 2 ^ z) % 2 ^ z
changed_by decrease z v x = (x + (2 ^ z - v % 2 ^ z)) % 2 ^ z
changed_by toggle z v x = bit_xor x (v % 2 ^ z)
changed_by rotate_left z v x = rotated_left z (v % 2 ^ z % z) x
changed_by rotate_right z v x = rotated_right z (v % 2 ^ z % z) x

-- "Inversion is 000's Figure 7": += and -= undo each other, ^= itself, <<= and >>= each other.
unfoldable pub undoing : Update → Update
undoing increase = decrease
undoing decrease = increase
undoing toggle = toggle
undoing rotate_left = rotate_right
undoing rotate_right = rotate_left

unfoldable pub going : Direction → Update → Update
going forward u = u
going inverse u = undoing u

-- "A condition other than 0 is true; a conditional swap swaps on every such value": what comes to stand at the first of two places.
unfoldable pub exchanged : ℕ → ℕ → ℕ → ℕ
exchanged condition here there = cond (eqb condition 0) here there
