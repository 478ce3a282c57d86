-- The names of a tree lie in a range: those of the running procedure, which has its names from lo on, below hi.
use Rattle.std.specs.Prelude.{ℕ, ◌≤◌, ◌<◌, ◌≡◌, List, [], ◌∷◌, length}
use Rattle.rules.specs.Tree.{Expr, number, constant, variable, element, size, binary, unary, LValue, whole, entry, Stmt, empty, update, swap, conditional_swap, branch, loop, call, block, nothing, list}

pub record In (lo hi x : ℕ) : Type 0 where
  pub low : lo ≤ x
  pub high : x < hi

-- A constant has no cells, so it may be any.
unfoldable pub WithinE : ℕ → ℕ → Expr → Type 0
WithinE lo hi (number n v) = Unit
WithinE lo hi (constant n x v) = Unit
WithinE lo hi (variable n x) = In lo hi x
WithinE lo hi (element n u x e) = In lo hi x × WithinE lo hi e
WithinE lo hi (size n x) = In lo hi x
WithinE lo hi (binary n o a b) = WithinE lo hi a × WithinE lo hi b
WithinE lo hi (unary n o a) = WithinE lo hi a

unfoldable pub WithinL : ℕ → ℕ → LValue → Type 0
WithinL lo hi (whole n x) = In lo hi x
WithinL lo hi (entry n u x e) = In lo hi x × WithinE lo hi e

unfoldable pub WithinLs : ℕ → ℕ → List LValue → Type 0
WithinLs lo hi [] = Unit
WithinLs lo hi (l ∷ ls) = WithinL lo hi l × WithinLs lo hi ls

unfoldable pub WithinXs : ℕ → ℕ → List ℕ → Type 0
WithinXs lo hi [] = Unit
WithinXs lo hi (x ∷ xs) = In lo hi x × WithinXs lo hi xs

-- A statement of procedure p: its calls go to smaller numbers, with as many arguments as there are parameters.
pub record Fitting (parameters : ℕ → ℕ) (p lo hi q : ℕ) (ls : List LValue) : Type 0 where
  pub smaller : q < p
  pub as_many : length ls ≡ parameters q
  pub within : WithinLs lo hi ls

unfoldable pub Within : (ℕ → ℕ) → ℕ → ℕ → ℕ → Stmt → Type 0
Within parameters p lo hi (empty n) = Unit
Within parameters p lo hi (update n o l e) = WithinL lo hi l × WithinE lo hi e
Within parameters p lo hi (swap n l m) = WithinL lo hi l × WithinL lo hi m
Within parameters p lo hi (conditional_swap n e l m) = WithinE lo hi e × WithinL lo hi l × WithinL lo hi m
Within parameters p lo hi (branch n e s t) = WithinE lo hi e × Within parameters p lo hi s × Within parameters p lo hi t
Within parameters p lo hi (loop n x a b s) = In lo hi x × WithinE lo hi a × WithinE lo hi b × Within parameters p lo hi s
Within parameters p lo hi (call n d q ls) = Fitting parameters p lo hi q ls
Within parameters p lo hi (block n xs s) = WithinXs lo hi xs × Within parameters p lo hi s
Within parameters p lo hi nothing = Unit
Within parameters p lo hi (list s t) = Within parameters p lo hi s × Within parameters p lo hi t
