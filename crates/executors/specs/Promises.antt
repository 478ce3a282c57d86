-- What each function of the runner promises, whatever the program is and wherever its names live.
use Rattle.std.specs.Prelude.{ℕ, List, Result, ⊤}
use Rattle.rules.specs.Words.{Direction}
use Rattle.rules.specs.Tree.{Stmt}
use Rattle.rules.specs.Machine.{Env, Command}
use Rattle.records.specs.Cases.{Means}
use Rattle.records.specs.declared.Node as case
use Rattle.records.specs.declared.refusal.Refusal.{Refusal}
use Rattle.expressions.specs.Names.{In, WithinE}
use Rattle.expressions.specs.Standing.{going, came}
use Rattle.expressions.specs.declared.memory.Memory.{Memory}
use Rattle.expressions.specs.declared.trace.Trace.{Trace}
use Rattle.executors.specs.World.{low_of, high_of, World, Stands, Ran}
use Rattle.executors.specs.Ways.{expr_at, stmt_at, Fine, FineCall, running, performed, calling, looping, deciding, bounding, Owes}
use Rattle.executors.specs.Nodes.{IsStatement}
use Rattle.executors.specs.declared.Counting.{Counting}
use Rattle.executors.specs.declared.Rest.{Rest}

-- A program of the memory's parts.
abbrev pub WorldOf : Memory → Type 0
WorldOf m = World m.parts.now.nodes.now m.parts.now.procedures.now m.parts.now.variables.now m.parts.now.constants.now

module _ (m : Memory) (trace : Trace) where
  abbrev procedures : List ℕ
  procedures = m.parts.now.procedures.now

  -- What the rest of a statement owes of the command f.
  abbrev pub OwesOf : (w : WorldOf m) → ℕ → ℕ → Direction → Env → Command → List ℕ → Result Rest Refusal → Trace → Type 0
  OwesOf w p n d ρ f cells' r trace' = Owes w p n d ρ f m.cells.now trace.events.now (going trace) cells' trace'.events.now trace'.run.left trace'.run.entries r

  -- An if's condition decides.
  abbrev pub Decides : ℕ → ℕ → ℕ → Result Rest Refusal → Trace → Type 0
  Decides e chosen otherwise r trace' =
      (w : WorldOf m) (p n : ℕ) (d : Direction) (ρ : Env) → Stands w p m.slots.now ρ
      → WithinE (low_of procedures p) (high_of procedures p) (expr_at w e) → Fine w p (stmt_at w chosen) → Fine w p (stmt_at w otherwise)
      → OwesOf w p n d ρ (deciding w p d ρ e chosen otherwise) m.cells.now r trace'

  -- Both bounds of a for are worked out.
  abbrev pub Bounds : ℕ → ℕ → ℕ → ℕ → ℕ → Result Rest Refusal → Trace → Type 0
  Bounds n x a b k r trace' =
      (w : WorldOf m) (p : ℕ) (d : Direction) (ρ : Env) → Stands w p m.slots.now ρ
      → In (low_of procedures p) (high_of procedures p) x → WithinE (low_of procedures p) (high_of procedures p) (expr_at w a) → WithinE (low_of procedures p) (high_of procedures p) (expr_at w b)
      → Fine w p (stmt_at w k) → OwesOf w p n d ρ (bounding w p d ρ n x a b k) m.cells.now r trace'

  -- A statement whose step is taken.
  abbrev pub Performs : Direction → ℕ → case.Node → List ℕ → Result Rest Refusal → Trace → Type 0
  Performs d n x cells' r trace' =
      (w : WorldOf m) (p : ℕ) (ρ : Env) → Stands w p m.slots.now ρ
      → IsStatement x → Means w.h w.s n x → Fine w p (stmt_at w n)
      → OwesOf w p n d ρ (performed w p d ρ (stmt_at w n)) cells' r trace'

  -- A statement.
  abbrev pub Begins : Direction → ℕ → List ℕ → Result Rest Refusal → Trace → Type 0
  Begins d n cells' r trace' =
      (w : WorldOf m) (p : ℕ) (ρ : Env) → Stands w p m.slots.now ρ
      → Fine w p (stmt_at w n) → OwesOf w p n d ρ (running w p d ρ (stmt_at w n)) cells' r trace'

  -- The members of the cycle: a tree, a for once its bounds are known, a call.
  module _ (p : ℕ) (d : Direction) (m' : Memory) (verdict : Result ⊤ Refusal) (trace' : Trace) where
    abbrev pub RanTo : Command → Type 0
    RanTo f = Ran procedures p f m.cells.now m.slots.now trace.events.now (going trace) m'.cells.now m'.slots.now trace'.events.now (came verdict trace')

    abbrev pub Executes : (WorldOf m → Stmt) → Type 0
    Executes tree = (w : WorldOf m) (ρ : Env) → Stands w p m.slots.now ρ → Fine w p (tree w) → RanTo (running w p d ρ (tree w))

    abbrev pub Turns : Counting → Type 0
    Turns it = (w : WorldOf m) (ρ : Env) → Stands w p m.slots.now ρ → Fine w p (stmt_at w it.body) → RanTo (looping w p d ρ it)

    abbrev pub Calls : ℕ → ℕ → Type 0
    Calls q a = (w : WorldOf m) (ρ : Env) → Stands w p m.slots.now ρ → FineCall w p q a → RanTo (calling w p d ρ q a)
