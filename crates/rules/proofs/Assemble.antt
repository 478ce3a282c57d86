-- Images written by hand: records in document 01's order of fields, laid out as "The image" says.
use Prim.Native.Nat.{ℕ, zero, suc, ◌+◌, ◌*◌, ◌/◌, ◌%◌}
use mathlib.Core.List.{List, [], ◌∷◌, ◌++◌}
use lib.ListN.{length}
use Rattle.rules.specs.Image.{missing}

-- The count lowest bytes of a number, the lowest first.
unfoldable pub bytes : ℕ → ℕ → List ℕ
bytes zero n = []
bytes (suc count) n = n % 256 ∷ bytes count (n / 256)

abbrev pub word : ℕ → List ℕ
word n = bytes 2 n

unfoldable pub words : List ℕ → List ℕ
words [] = []
words (n ∷ ns) = word n ++ words ns

unfoldable pub joined : List (List ℕ) → List ℕ
joined [] = []
joined (r ∷ rs) = r ++ joined rs

-- first variable, variable count, parameter count, body node
abbrev pub procedure : ℕ → ℕ → ℕ → ℕ → List ℕ
procedure first count parameters body = words (first ∷ count ∷ parameters ∷ body ∷ [])

-- kind, secrecy, size, extra
abbrev pub variable_record : ℕ → ℕ → ℕ → ℕ → List ℕ
variable_record kind secrecy size extra = kind ∷ secrecy ∷ size ∷ 0 ∷ word extra

-- kind, operator, a, b, c, d, next
abbrev pub node : ℕ → ℕ → ℕ → ℕ → ℕ → ℕ → ℕ → List ℕ
node kind operator a b c d next = kind ∷ operator ∷ words (a ∷ b ∷ c ∷ d ∷ next ∷ [])

-- A node without operator and next.
abbrev pub plain : ℕ → ℕ → ℕ → ℕ → ℕ → List ℕ
plain kind a b c d = node kind 0 a b c d missing

unfoldable pub constants : List ℕ → List ℕ
constants [] = []
constants (n ∷ ns) = bytes 8 n ++ constants ns

unfoldable pub assembled : List (List ℕ) → List (List ℕ) → List (List ℕ) → List ℕ → List ℕ
assembled procedures variables nodes numbers =
    words (1 ∷ length procedures ∷ length variables ∷ length nodes ∷ length numbers ∷ [])
    ++ (words (20
    ∷ (20 + length procedures * 8)
    ∷ (20 + length procedures * 8 + length variables * 6)
    ∷ (20 + length procedures * 8 + length variables * 6 + length nodes * 12)
    ∷ (20 + length procedures * 8 + length variables * 6 + length nodes * 12 + length numbers * 8) ∷ [])
    ++ (joined procedures ++ (joined variables ++ (joined nodes ++ constants numbers))))
