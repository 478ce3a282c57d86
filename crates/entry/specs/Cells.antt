-- How the room of a local is told on the way through the variables.
use Rattle.std.specs.Prelude.{ℕ, ◌≡◌, ◌+◌, ◌-◌, ◌≤◌, List, Bool, cond, ◌||◌, leb, ltb}
use Rattle.rules.specs.Image.{Header, Parts, Procedure, procedure_of, Variable, is_array, is_constant}
use Rattle.rules.specs.Form.{owner, search}

-- Whether the variables of procedure p end before x or at it: the test of the search that finds a variable's owner.
abbrev pub ends_at : List ℕ → ℕ → ℕ → Bool
ends_at s x p = leb ((procedure_of s p).first + (procedure_of s p).count) x

-- How many cells variable x has where procedure q is its owner.
unfoldable pub cells_by : Procedure → Variable → ℕ → ℕ
cells_by q v x = cond (ltb x (q.first + q.parameters) || is_constant v) 0 (cond (is_array v) v.extra 1)

-- The owner of variable x is found from procedure o on, as the owners of the variables before it are not behind o.
pub record Walked (h : Header) (s : Parts) (o x : ℕ) : Type 0 where
  pub upto : o ≤ h.procedures
  pub found : owner h s.procedures x ≡ search (ends_at s.procedures x) o (h.procedures - o)
