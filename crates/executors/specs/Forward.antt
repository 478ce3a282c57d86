-- A list forward, as a loop: what is run of the list from n is what is run of the list from the node that is next, and one law for each way out.
use Rattle.std.specs.Prelude.{ℕ, ◌≤◌, ◌≡◌, refl, List, Bool, false, length}
use Rattle.std.proofs.Common.{ap, ◌∙◌}
use Rattle.rules.specs.Words.{Direction}
use Rattle.rules.specs.Image.{missing, node_of}
use Rattle.rules.specs.Tree.{Stmt}
use Rattle.rules.specs.Machine.{Env, State}
use Rattle.expressions.specs.Relations.{Table, Run, Holds, direction_of}
use Rattle.executors.specs.World.{Statement, Chain, World, Stands, Kept, Ran}
use Rattle.executors.specs.Standing.{kept_both, stands_on}
use Rattle.executors.specs.Doing.{goes, both-reaches, ran-same}
use Rattle.executors.specs.Ways.{stmt_at, stmts_at, Fine, running}
use Rattle.executors.specs.Lists.{both-refused, none, fine_first, fine_rest, list_forward}

-- The list from n, from the state c, is the list from m, from a state that the numbers now stand for.
pub record Following {nodes procedures variables constants : List ℕ} (w : World nodes procedures variables constants) (p : ℕ) (d : Direction) (ρ : Env) (n : ℕ)
    (c : State) (slots₀ : Table) (m : ℕ) (cells : List ℕ) (slots : Table) (trace : List ℕ) (run : Run) : Type 0 where
  pub state : State
  pub holds : Holds state cells trace run
  pub kept : Kept procedures p slots₀ slots
  pub same : running w p d ρ (stmts_at w n) c ≡ running w p d ρ (stmts_at w m) state

-- The same whatever the program is, wherever its names live, and from every state.
abbrev pub Followed : List ℕ → List ℕ → List ℕ → List ℕ → Direction → ℕ → ℕ → List ℕ → Table → List ℕ → Run → ℕ → List ℕ → Table → List ℕ → Run → Type 0
Followed nodes procedures variables constants d p n cells₀ slots₀ trace₀ run₀ m cells slots trace run =
    (w : World nodes procedures variables constants) (ρ : Env) → Stands w p slots₀ ρ → Fine w p (stmts_at w n)
    → Fine w p (stmts_at w m) × ((c : State) → Holds c cells₀ trace₀ run₀ → Following w p d ρ n c slots₀ m cells slots trace run)

-- A tree is run, whatever the program is and wherever its names live.
abbrev pub Runs : (nodes procedures variables constants : List ℕ) → ℕ → Direction → (World nodes procedures variables constants → Stmt)
    → Table → List ℕ → List ℕ → Run → List ℕ → Table → List ℕ → Run → Type 0
Runs nodes procedures variables constants p d tree slots cells trace run cells' slots' trace' run' =
    (w : World nodes procedures variables constants) (ρ : Env) → Stands w p slots ρ → Fine w p (tree w)
    → Ran procedures p (running w p d ρ (tree w)) cells slots trace run cells' slots' trace' run'

-- The loop's invariant: the node is a statement or missing and not before n, the rows are as many, and the list is its own tail.
pub record Follows (nodes procedures variables constants : List ℕ) (d : Direction) (p n : ℕ) (cells₀ : List ℕ) (slots₀ : Table) (trace₀ : List ℕ) (run₀ : Run)
    (m : ℕ) (cells : List ℕ) (slots : Table) (trace : List ℕ) (run : Run) : Type 0 where
  pub chain : Chain nodes m
  pub onward : n ≤ m
  pub slots_long : length slots ≡ length slots₀
  pub followed : Followed nodes procedures variables constants d p n cells₀ slots₀ trace₀ run₀ m cells slots trace run

module _ {nodes procedures variables constants : List ℕ} (p n : ℕ) (b : Bool) {cells₀ : List ℕ} {slots₀ : Table} {trace₀ : List ℕ} {run₀ : Run}
    (m : ℕ) (cells : List ℕ) (slots : Table) (trace : List ℕ) (run : Run) (inv : Follows nodes procedures variables constants (direction_of b) p n cells₀ slots₀ trace₀ run₀ m cells slots trace run) where
  -- The list from m on is run to its end.
  follows_led : (cells₁ : List ℕ) (slots₁ : Table) (trace₁ : List ℕ) (run₁ : Run) (w : World nodes procedures variables constants) (ρ : Env) → Stands w p slots₀ ρ → Fine w p (stmts_at w n)
      → (Stands w p slots ρ → Fine w p (stmts_at w m) → Ran procedures p (running w p (direction_of b) ρ (stmts_at w m)) cells slots trace run cells₁ slots₁ trace₁ run₁)
      → Ran procedures p (running w p (direction_of b) ρ (stmts_at w n)) cells₀ slots₀ trace₀ run₀ cells₁ slots₁ trace₁ run₁
  follows_led cells₁ slots₁ trace₁ run₁ w ρ st fine ran c h =
      let f = inv.followed w ρ st fine in
      let x = f.1 c h in
      let e = ran (stands_on w st slots x.kept inv.slots_long) f.0 x.state x.holds in
      record { is = rw x.same e.is; kept = kept_both x.kept e.kept }

  -- No statement is left.
  pub follows_ends : m ≡ missing → Runs nodes procedures variables constants p (direction_of b) (λ w. stmts_at w n) slots₀ cells₀ trace₀ run₀ cells slots trace run
  follows_ends e w ρ st fine = follows_led cells slots trace run w ρ st fine (λ st₁ fine₁. none w p (direction_of b) ρ m e)

  module _ (forward : b ≡ false) (sm : Statement nodes m) (cells₁ : List ℕ) (slots₁ : Table) (trace₁ : List ℕ) (run₁ : Run)
      (one : Runs nodes procedures variables constants p (direction_of b) (λ w. stmt_at w m) slots cells trace run cells₁ slots₁ trace₁ run₁) where
    -- The statement at m is refused, and so is the list.
    pub follows_stops : (run₁.number ≡ 0 → ⊥) → Runs nodes procedures variables constants p (direction_of b) (λ w. stmts_at w n) slots₀ cells₀ trace₀ run₀ cells₁ slots₁ trace₁ run₁
    follows_stops ne w ρ st fine = follows_led cells₁ slots₁ trace₁ run₁ w ρ st fine (λ st₁ fine₁.
        ran-same (list_forward w sm p b ρ _ refl forward) (both-refused (one w ρ st₁ (fine_first w sm p fine₁)) _ ne))

    -- The statement at m is done: the list goes on behind it.
    pub followed_on : run₁.number ≡ 0 → (k : ℕ) → k ≡ (node_of nodes m).next
        → Followed nodes procedures variables constants (direction_of b) p n cells₀ slots₀ trace₀ run₀ k cells₁ slots₁ trace₁ run₁
    followed_on z k next w ρ st fine =
        let f = inv.followed w ρ st fine in (
          fine_rest w sm p f.0 k next,
          λ c h.
              let x = f.1 c h in
              let e = one w ρ (stands_on w st slots x.kept inv.slots_long) (fine_first w sm p f.0) x.state x.holds in
              let y = both-reaches (running w p (direction_of b) ρ (stmt_at w m)) (running w p (direction_of b) ρ (stmts_at w k)) (goes e.is z) in
              record {
                state = y.to;
                holds = y.holds;
                kept = kept_both x.kept e.kept;
                same = x.same ∙ ap (λ g. g x.state) (list_forward w sm p b ρ k next forward) ∙ y.same;
              },
        )
