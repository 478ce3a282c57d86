-- The statements that hold no statement, once their step is taken, as `exec` of the rules has them.
use Rattle.std.specs.Prelude.{ℕ, List, Bool, not, cond, ◌||◌}
use Rattle.rules.specs.Words.{Direction, Update, changed_by, going}
use Rattle.rules.specs.Tree.{Expr, LValue, root}
use Rattle.rules.specs.Machine.{Slot, Env, Command, eval, address, reading, change, exchange, zeros}

unfoldable pub updating : Env → Direction → Update → LValue → Expr → Command
updating ρ d o l e = reading (λ σ. address ρ σ l) (λ i. reading (λ σ. eval ρ σ e) (λ v. change (changed_by (going d o) (ρ (root l)).width v) i))

unfoldable pub exchanging : Env → ℕ → LValue → LValue → Command
exchanging ρ v l m = reading (λ σ. address ρ σ l) (λ i. reading (λ σ. address ρ σ m) (λ j. exchange v i j))

unfoldable pub exchanging_if : Env → Expr → LValue → LValue → Command
exchanging_if ρ e l m = reading (λ σ. eval ρ σ e) (λ v. exchanging ρ v l m)

-- What the clearing tests ask of a variable: it is of the other secrecy, or all its cells are 0.
unfoldable pub passing : Bool → Slot → List ℕ → Bool
passing secrecy x σ = cond secrecy (not x.hidden) x.hidden || zeros σ x.base x.cells
