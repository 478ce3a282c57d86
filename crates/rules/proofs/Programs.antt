-- Small programs written down by their nodes: node 0 is the body of a single procedure, arguments are numbers of nodes, variables and constants.
-- All variables are 64 bits wide.
use Prim.Native.Nat.{ℕ}
use mathlib.Core.List.{List, [], ◌∷◌}
use lib.ListN.{length}
use Rattle.rules.specs.Image.{missing}
use Rattle.rules.proofs.Assemble.{bytes, words, joined, procedure, variable_record, node, plain, constants, assembled}

abbrev pub public : ℕ
public = 0

abbrev pub hidden : ℕ
hidden = 1

abbrev pub scalar : ℕ → List ℕ
scalar secrecy = variable_record 0 secrecy 64 0

abbrev pub array : ℕ → List ℕ
array secrecy = variable_record 1 secrecy 64 0

abbrev pub constant : ℕ → List ℕ
constant k = variable_record 2 0 64 k

abbrev pub counter : List ℕ
counter = variable_record 3 0 64 0

-- expressions and L-values: number k, variable x, element of x at e, a binary operator
abbrev pub num : ℕ → List ℕ
num k = plain 20 k 0 0 0

abbrev pub var : ℕ → List ℕ
var x = plain 21 x 0 0 0

abbrev pub element : ℕ → ℕ → List ℕ
element x e = plain 22 x e 0 0

abbrev pub binary : ℕ → ℕ → ℕ → List ℕ
binary operator a b = node 25 operator a b 0 0 missing

-- statements: the last field of an update and of a block is next
abbrev pub empty : List ℕ
empty = plain 1 0 0 0 0

abbrev pub increase : ℕ → ℕ → ℕ → List ℕ
increase target value next = node 2 1 target value 0 0 next

abbrev pub toggle : ℕ → ℕ → ℕ → List ℕ
toggle target value next = node 2 3 target value 0 0 next

abbrev pub block : ℕ → ℕ → ℕ → ℕ → List ℕ
block first count statement next = node 9 0 first count statement 0 next

-- One procedure whose first so many variables are parameters.
unfoldable pub program : ℕ → List (List ℕ) → List (List ℕ) → List ℕ → List ℕ
unfolding bytes words joined constants assembled
program parameters variables nodes numbers = assembled (procedure 0 (length variables) parameters 0 ∷ []) variables nodes numbers

-- Several procedures.
unfoldable pub programs : List (List ℕ) → List (List ℕ) → List (List ℕ) → List ℕ → List ℕ
unfolding bytes words joined constants assembled
programs procedures variables nodes numbers = assembled procedures variables nodes numbers
