-- The commands of the cycle's members, and what is owed of a statement that has begun.
use Rattle.std.specs.Prelude.{ℕ, ◌+◌, ◌-◌, ◌*◌, ◌<◌, ◌≡◌, List, eqb, Result, Ok, Err}
use Rattle.rules.specs.Words.{Direction, turned}
use Rattle.rules.specs.Tree.{Expr, LValue, Stmt, empty, update, swap, conditional_swap, branch, loop, call, block, nothing, list, range, reading_at}
use Rattle.rules.specs.Machine.{Env, Command, Calls, done, eval, arguments, reading, both, choose, counted, block_end, first_bound, exec}
use Rattle.rules.specs.Run.{calls_below}
use Rattle.expressions.specs.Relations.{Run, Chained, Does, direction_of}
use Rattle.expressions.specs.Standing.{ran}
use Rattle.records.specs.declared.refusal.Refusal.{Refusal}
use Rattle.expressions.specs.Names.{WithinXs, Fitting, Within}
use Rattle.expressions.specs.Commands.{updating, exchanging, exchanging_if}
use Rattle.executors.specs.World.{Statement, Chain, parameters_of, low_of, high_of, World, Leads}
use Rattle.executors.specs.declared.Counting.{Counting}
use Rattle.executors.specs.declared.Rest.{Rest}
use Rattle.executors.specs.declared.Rest.TheVariants.{Finished, Branch, Turns, Call, Block}

-- What a statement does once its step is taken.
unfoldable pub performing : Calls → Direction → Env → Stmt → Command
performing calls d ρ (empty n) = done
performing calls d ρ (update n o l e) = updating ρ d o l e
performing calls d ρ (swap n l m) = exchanging ρ 1 l m
performing calls d ρ (conditional_swap n e l m) = exchanging_if ρ e l m
performing calls d ρ (branch n e s t) = reading (λ σ. eval ρ σ e) (λ v. choose (eqb v 0) (exec calls d ρ t) (exec calls d ρ s))
performing calls d ρ (loop n x a b s) =
    reading (λ σ. eval ρ σ (first_bound d a b)) (λ v. reading (λ σ. eval ρ σ (first_bound d b a)) (λ w. counted n (ρ x).base v w (exec calls d ρ s)))
performing calls d ρ (call n k q ls) = reading (λ σ. arguments ρ σ ls) (calls q (turned d k))
performing calls d ρ (block n xs s) = both (exec calls d ρ s) (block_end n ρ xs)
performing calls d ρ nothing = done
performing calls d ρ (list s t) = done

module _ {nodes procedures variables constants : List ℕ} (w : World nodes procedures variables constants) where
  abbrev pub expr_at : ℕ → Expr
  expr_at n = (reading_at w.h w.s n).as_expr

  abbrev pub stmt_at : ℕ → Stmt
  stmt_at n = (reading_at w.h w.s n).as_stmt

  abbrev pub stmts_at : ℕ → Stmt
  stmts_at n = (reading_at w.h w.s n).as_stmts

  abbrev pub arguments_at : ℕ → List LValue
  arguments_at n = (reading_at w.h w.s n).as_arguments

  module _ (p : ℕ) where
    -- A tree of procedure p names what is its own, and calls what is below.
    abbrev pub Fine : Stmt → Type 0
    Fine t = Within (parameters_of procedures) p (low_of procedures p) (high_of procedures p) t

    abbrev pub FineCall : ℕ → ℕ → Type 0
    FineCall q a = Fitting (parameters_of procedures) p (low_of procedures p) (high_of procedures p) q (arguments_at a)

    -- The commands of the four members.
    module _ (d : Direction) (ρ : Env) where
      abbrev pub running : Stmt → Command
      running t = exec (calls_below w.h w.s w.homes p) d ρ t

      abbrev pub performed : Stmt → Command
      performed t = performing (calls_below w.h w.s w.homes p) d ρ t

      abbrev pub calling : ℕ → ℕ → Command
      calling q a = reading (λ σ. arguments ρ σ (arguments_at a)) (calls_below w.h w.s w.homes p q d)

      abbrev pub looping : Counting → Command
      looping k = counted k.node k.cell k.first k.second (running (stmt_at k.body))

      -- An if, and a for with the counter x, whose bounds are worked out in this order.
      abbrev pub deciding : ℕ → ℕ → ℕ → Command
      deciding e chosen otherwise = reading (λ σ. eval ρ σ (expr_at e)) (λ v. choose (eqb v 0) (running (stmt_at otherwise)) (running (stmt_at chosen)))

      abbrev pub bounding : ℕ → ℕ → ℕ → ℕ → ℕ → Command
      bounding n x a b m =
          reading (λ σ. eval ρ σ (expr_at a)) (λ v. reading (λ σ. eval ρ σ (expr_at b)) (λ u. counted n (ρ x).base v u (running (stmt_at m))))

      abbrev pub closing : ℕ → ℕ → ℕ → ℕ → Command
      closing n x count m = both (running (stmts_at m)) (block_end n ρ (range x count))

    -- What is owed of the command f of node n: it is refused, or done, or what is left does from here what it does.
    abbrev pub Owes : ℕ → Direction → Env → Command → List ℕ → List ℕ → Run → List ℕ → List ℕ → ℕ → ℕ → Result Rest Refusal → Type 0
    Owes n d ρ f cells trace run cells' trace' left entries (Err r) = Does f cells trace run cells' trace' (ran (Err r) left entries)
    Owes n d ρ f cells trace run cells' trace' left entries (Ok Finished) = Does f cells trace run cells' trace' (ran (Ok tt) left entries)
    Owes n d ρ f cells trace run cells' trace' left entries (Ok (Branch m)) =
        Fine (stmt_at m) × Leads f cells trace run (running d ρ (stmt_at m)) cells' trace' (ran (Ok tt) left entries)
    Owes n d ρ f cells trace run cells' trace' left entries (Ok (Turns k)) =
        Fine (stmt_at k.body) × Leads f cells trace run (looping d ρ k) cells' trace' (ran (Ok tt) left entries)
    Owes n d ρ f cells trace run cells' trace' left entries (Ok (Call b q a)) =
        FineCall q a × Leads f cells trace run (calling (direction_of b) ρ q a) cells' trace' (ran (Ok tt) left entries)
    Owes n d ρ f cells trace run cells' trace' left entries (Ok (Block x count m)) =
        (WithinXs (low_of procedures p) (high_of procedures p) (range x count) × Fine (stmts_at m))
        × Leads f cells trace run (closing d ρ n x count m) cells' trace' (ran (Ok tt) left entries)

-- What is left refers to larger nodes.
abbrev pub Sound : List ℕ → ℕ → Result Rest Refusal → Type 0
Sound nodes n (Err r) = Unit {0}
Sound nodes n (Ok Finished) = Unit {0}
Sound nodes n (Ok (Branch m)) = Statement nodes m × (n < m)
Sound nodes n (Ok (Turns k)) = Statement nodes k.body × ((n < k.body) × (k.node ≡ n))
Sound nodes n (Ok (Call b q a)) = Chained nodes a
Sound nodes n (Ok (Block x count m)) = Chain nodes m × ((n < m) × (x + count < 65536))

-- What falls with each call: the procedure's number, then what lies behind the node.
abbrev pub statement_rank : ℕ → ℕ → ℕ
statement_rank p n = p * 262144 + (65535 - n) * 4 + 3

abbrev pub statements_rank : ℕ → ℕ → ℕ
statements_rank p n = p * 262144 + (65535 - n) * 4 + 4

abbrev pub turns_rank : ℕ → ℕ → ℕ
turns_rank p n = p * 262144 + (65535 - n) * 4 + 2

abbrev pub called_rank : ℕ → ℕ
called_rank p = p * 262144
