-- One command after another, over the rows: lists of statements, and a block with its end.
use Rattle.std.specs.Prelude.{ℕ, ◌≡◌, List, Bool, true, false, length}
use Rattle.std.proofs.Math.Path.{refl, ap}
use Rattle.std.proofs.Common.{◌∙◌}
use Rattle.rules.specs.Words.{Direction}
use Rattle.rules.specs.Image.{missing, node_of}
use Rattle.rules.specs.Tree.{range}
use Rattle.rules.specs.Machine.{Env, Command, both, in_order, exec, block_end}
use Rattle.expressions.specs.Relations.{Table, Run, slot_of, goes_on, Does, direction_of}
use Rattle.expressions.specs.Names.{WithinXs, Within}
use Rattle.expressions.specs.Laws.{next-refused}
use Rattle.expressions.specs.Agreement.{block_end-same}
use Rattle.executors.specs.World.{Statement, low_of, high_of, World, Stands, Ran}
use Rattle.executors.specs.Standing.{kept_both, stands_on}
use Rattle.executors.specs.Doing.{finished, goes, both-reaches}
use Rattle.executors.specs.Ways.{stmt_at, stmts_at, Fine, running}
use Rattle.executors.specs.Nodes.{stmts_at_lem, stmts_none}

module _ {procedures : List ℕ} {p : ℕ} {f : Command} {cells : List ℕ} {slots : Table} {trace : List ℕ} {run : Run} {cells₁ : List ℕ} {slots₁ : Table} {trace₁ : List ℕ} {run₁ : Run}
    (first : Ran procedures p f cells slots trace run cells₁ slots₁ trace₁ run₁) (g : Command) where
  pub both-refused : (run₁.number ≡ 0 → ⊥) → Ran procedures p (both f g) cells slots trace run cells₁ slots₁ trace₁ run₁
  unfolding both
  both-refused ne c h = let x = first c h in record { is = next-refused g x.is ne; kept = x.kept }

  pub both-on : {nodes variables constants : List ℕ} {w : World nodes procedures variables constants} {ρ : Env} → Stands w p slots ρ → run₁.number ≡ 0 → length slots₁ ≡ length slots
      → {cells₂ : List ℕ} {slots₂ : Table} {trace₂ : List ℕ} {run₂ : Run}
      → (Stands w p slots₁ ρ → Ran procedures p g cells₁ slots₁ trace₁ run₁ cells₂ slots₂ trace₂ run₂)
      → Ran procedures p (both f g) cells slots trace run cells₂ slots₂ trace₂ run₂
  both-on {w = w} st z long second c h =
      let x = first c h in
      let y = both-reaches f g (goes x.is z) in
      let e = second (stands_on w st slots₁ x.kept long) y.to y.holds in
      record { is = rw y.same e.is; kept = kept_both x.kept e.kept }

module _ {nodes procedures variables constants : List ℕ} (w : World nodes procedures variables constants) (p : ℕ) (d : Direction) (ρ : Env) where
  -- No statements.
  pub none : (n : ℕ) → n ≡ missing → {cells : List ℕ} {slots : Table} {trace : List ℕ} {run : Run} → Ran procedures p (running w p d ρ (stmts_at w n)) cells slots trace run cells slots trace run
  unfolding exec
  none n e c h = let t = ap (stmts_at w) e ∙ stmts_none w in record { is = rw t (goes_on h); kept = record { row = λ y u. refl } }

module _ {nodes procedures variables constants : List ℕ} (w : World nodes procedures variables constants) {n : ℕ} (sn : Statement nodes n) (p : ℕ) where
  pub fine_first : Fine w p (stmts_at w n) → Fine w p (stmt_at w n)
  unfolding Within
  fine_first f = (rw (stmts_at_lem w sn) at f).0

  pub fine_rest : Fine w p (stmts_at w n) → (m : ℕ) → m ≡ (node_of nodes n).next → Fine w p (stmts_at w m)
  unfolding Within
  fine_rest f m e = rw e (rw (stmts_at_lem w sn) at f).1

  module _ (b : Bool) (ρ : Env) (m : ℕ) (e : m ≡ (node_of nodes n).next) where
    -- Forward: the statement, then the rest. Inverse: the rest first.
    pub list_forward : b ≡ false → running w p (direction_of b) ρ (stmts_at w n) ≡ both (running w p (direction_of b) ρ (stmt_at w n)) (running w p (direction_of b) ρ (stmts_at w m))
    unfolding direction_of exec in_order
    list_forward q = rw (q, stmts_at_lem w sn, e)

    pub list_inverse : b ≡ true → running w p (direction_of b) ρ (stmts_at w n) ≡ both (running w p (direction_of b) ρ (stmts_at w m)) (running w p (direction_of b) ρ (stmt_at w n))
    unfolding direction_of exec in_order
    list_inverse q = rw (q, stmts_at_lem w sn, e)

-- The clearing tests at a block's end.
pub end_ran : {nodes procedures variables constants : List ℕ} (w : World nodes procedures variables constants) {p : ℕ} {slots : Table} {ρ : Env} → Stands w p slots ρ
    → (n x count : ℕ) → WithinXs (low_of procedures p) (high_of procedures p) (range x count) → {cells trace : List ℕ} {run run' : Run}
    → Does (block_end n (slot_of slots) (range x count)) cells trace run cells trace run'
    → Ran procedures p (block_end n ρ (range x count)) cells slots trace run cells slots trace run'
end_ran {procedures} w {p} {slots} {ρ} st n x count within d =
    finished (λ c h. rw (← block_end-same (slot_of slots) ρ (low_of procedures p) (high_of procedures p) st.agree.rows n (range x count) within c) (d c h))
