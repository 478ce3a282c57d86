-- The run of a tree: cells, steps, events, refusals 23 to 28, in both directions.
use Rattle.std.specs.Prelude.{ℕ, zero, suc, ◌+◌, ◌%◌, ◌^◌, List, [], ◌∷◌, ◌++◌, Bool, true, false, not, cond, ◌&&◌, ◌||◌, get_or, set, eqb, ltb}
use Rattle.rules.specs.Words.{Direction, forward, inverse, turned, Binary, operate, operate1, divides, changed_by, going, exchanged}
use Rattle.rules.specs.Tree.{Expr, number, constant, variable, element, size, binary, unary, LValue, whole, entry, Stmt, empty, update, swap, conditional_swap, branch, loop, call, block, nothing, list, root}

-- Where a variable lives: its first cell, how many it has, their size, whether they are secret.
pub record Slot : Type 0 where
  pub base : ℕ
  pub cells : ℕ
  pub width : ℕ
  pub hidden : Bool

abbrev pub no_slot : Slot
no_slot = record { base = 0; cells = 0; width = 64; hidden = false }

abbrev pub Env : Type 0
Env = ℕ → Slot

-- The cells, the steps that are left of the budget, and the trace so far.
pub record State : Type 0 where
  pub memory : List ℕ
  pub left : ℕ
  pub events : List ℕ

-- A run finishes, or is refused with a number and a place.
pub data Out : Type 0 where
  done : State → Out
  stop : ℕ → ℕ → State → Out

abbrev pub Command : Type 0
Command = State → Out

-- What is worked out: a value, or a refusal; both with the events on the way.
pub data Found (A : Type 0) : Type 0 where
  found : A → List ℕ → Found A
  fault : ℕ → ℕ → List ℕ → Found A

-- ---- the trace

-- "a cell read or changed writes 65,536 plus its number"
abbrev pub cell_event : ℕ → ℕ
cell_event i = 65536 + i

unfoldable pub noted : List ℕ → State → State
noted t c = record { memory = c.memory; left = c.left; events = c.events ++ t }

unfoldable pub holding : List ℕ → State → State
holding σ c = record { memory = σ; left = c.left; events = c.events }

-- ---- expressions

unfoldable pub after : {A : Type 0} → List ℕ → Found A → Found A
after t (found v u) = found v (t ++ u)
after t (fault k n u) = fault k n (t ++ u)

unfoldable pub and_then : {A B : Type 0} → Found A → (A → Found B) → Found B
and_then (found v t) f = after t (f v)
and_then (fault k n t) f = fault k n t

-- 24: "index not below the length", "each index tested once known"
unfoldable pub inside : ℕ → Slot → ℕ → Found ℕ
inside n x v = cond (ltb v x.cells) (found (x.base + v) []) (fault 24 n [])

unfoldable pub load : List ℕ → ℕ → Found ℕ
load σ i = found (get_or σ i 0) (cell_event i ∷ [])

-- 25: "zero divisor"
unfoldable pub divided : ℕ → Binary → ℕ → ℕ → Found ℕ
divided n o v w = cond (divides o && eqb w 0) (fault 25 n []) (found (operate o v w) [])

-- "Expressions are modulo 2^64." "operands left to right, index before cell". Numbers, constants and sizes write nothing.
unfoldable pub eval : Env → List ℕ → Expr → Found ℕ
eval ρ σ (number n v) = found (v % 2 ^ 64) []
eval ρ σ (constant n x v) = found (v % 2 ^ 64) []
eval ρ σ (variable n x) = load σ (ρ x).base
eval ρ σ (element n u x e) = and_then (eval ρ σ e) (λ v. and_then (inside n (ρ x) v) (load σ))
eval ρ σ (size n x) = found (ρ x).cells []
eval ρ σ (binary n o a b) = and_then (eval ρ σ a) (λ v. and_then (eval ρ σ b) (divided n o v))
eval ρ σ (unary n o a) = and_then (eval ρ σ a) (λ v. found (operate1 o v) [])

-- The cell of an L-value.
unfoldable pub address : Env → List ℕ → LValue → Found ℕ
address ρ σ (whole n x) = found (ρ x).base []
address ρ σ (entry n u x e) = and_then (eval ρ σ e) (inside n (ρ x))

-- What an argument lends: a whole variable, or one cell of an array.
unfoldable pub lent : Env → LValue → ℕ → Slot
lent ρ (whole n x) i = ρ x
lent ρ (entry n u x e) i = record { base = i; cells = 1; width = (ρ x).width; hidden = (ρ x).hidden }

-- "call: argument indices"
unfoldable pub arguments : Env → List ℕ → List LValue → Found (List Slot)
arguments ρ σ [] = found [] []
arguments ρ σ (l ∷ ls) = and_then (address ρ σ l) (λ i. and_then (arguments ρ σ ls) (λ xs. found (lent ρ l i ∷ xs) []))

-- ---- commands

-- "Steps: one for each statement begun, one for each loop turn begun." "a step writes its node number". 23: "the next step would pass the budget".
unfoldable pub step_from : ℕ → ℕ → Command → Command
step_from zero n f c = stop 23 n c
step_from (suc left) n f c = f (record { memory = c.memory; left = left; events = c.events ++ (n ∷ []) })

unfoldable pub step : ℕ → Command → Command
step n f c = step_from c.left n f c

unfoldable pub on_found : {A : Type 0} → Found A → (A → Command) → Command
on_found (found v t) f c = f v (noted t c)
on_found (fault k n t) f c = stop k n (noted t c)

unfoldable pub reading : {A : Type 0} → (List ℕ → Found A) → (A → Command) → Command
reading A f c = on_found (A c.memory) f c

unfoldable pub next : Out → Command → Out
next (done c) g = g c
next (stop k n c) g = stop k n c

unfoldable pub both : Command → Command → Command
both f g c = next (f c) g

unfoldable pub in_order : Direction → Command → Command → Command
in_order forward f g = both f g
in_order inverse f g = both g f

unfoldable pub choose : Bool → Command → Command → Command
choose true f g = f
choose false f g = g

-- The target cell of an update: changed, and written to the trace once.
unfoldable pub change : (ℕ → ℕ) → ℕ → Command
change f i c = done (noted (cell_event i ∷ []) (holding (set c.memory i (f (get_or c.memory i 0))) c))

-- "then both cells once each, whether or not they swap"
unfoldable pub exchange : ℕ → ℕ → ℕ → Command
exchange condition i j c =
    done (noted (cell_event i ∷ cell_event j ∷ [])
    (holding (set (set c.memory i (exchanged condition (get_or c.memory i 0) (get_or c.memory j 0))) j (exchanged condition (get_or c.memory j 0) (get_or c.memory i 0))) c))

-- A counter's start and its reset write nothing.
unfoldable pub put : ℕ → ℕ → Command
put i v c = done (holding (set c.memory i v) c)

-- 28: "counter equals the first bound after a turn"
unfoldable pub left_first : ℕ → ℕ → ℕ → Command → Command
left_first n i first f c = choose (eqb (get_or c.memory i 0) first) (stop 28 n) f c

-- "while it differs from the second, the body runs": at most `turns` turns, and there are never more than steps left.
unfoldable pub turns_of : ℕ → ℕ → ℕ → ℕ → ℕ → Command → Command
turns_of zero n i first second f c = choose (eqb (get_or c.memory i 0) second) done (stop 23 n) c
turns_of (suc turns) n i first second f c = choose (eqb (get_or c.memory i 0) second) done (step n (both f (left_first n i first (turns_of turns n i first second f)))) c

-- "the counter starts at the first; .. Afterwards it is set to 0."
unfoldable pub counted : ℕ → ℕ → ℕ → ℕ → Command → Command
counted n i first second f = both (put i first) (both (λ c. turns_of c.left n i first second f c) (put i 0))

-- ---- blocks: the clearing tests

unfoldable pub zeros : List ℕ → ℕ → ℕ → Bool
zeros σ i zero = true
zeros σ i (suc count) = eqb (get_or σ i 0) 0 && zeros σ (suc i) count

-- All cells of the names whose secrecy is the given one are 0.
unfoldable pub cleared : Bool → Env → List ℕ → List ℕ → Bool
cleared secrecy ρ [] σ = true
cleared secrecy ρ (x ∷ xs) σ = (cond secrecy (not (ρ x).hidden) (ρ x).hidden || zeros σ (ρ x).base (ρ x).cells) && cleared secrecy ρ xs σ

-- 26: "public local not 0 at its block's end". 27: "none public, but a secret one".
unfoldable pub block_end : ℕ → Env → List ℕ → Command
block_end n ρ xs c = choose (cleared false ρ xs c.memory) (choose (cleared true ρ xs c.memory) done (stop 27 n)) (stop 26 n) c

-- ---- statements

-- The called bodies, by procedure number.
abbrev pub Calls : Type 0
Calls = ℕ → Direction → List Slot → Command

-- The bound that is worked out first: "Figure 7's statement for (x = e2; e1)".
unfoldable pub first_bound : Direction → Expr → Expr → Expr
first_bound forward a b = a
first_bound inverse a b = b

-- Order: "update: target index, value, target cell once; swap: condition, indices, then both cells; for: the bounds; call: argument indices".
-- A block needs no first zeros: all locals are 0 at the start of the run, and a block ends only where its own are 0 again.
unfoldable pub exec : Calls → Direction → Env → Stmt → Command
exec calls d ρ (empty n) = step n done
exec calls d ρ (update n o l e) = step n (reading (λ σ. address ρ σ l) (λ i. reading (λ σ. eval ρ σ e) (λ v. change (changed_by (going d o) (ρ (root l)).width v) i)))
exec calls d ρ (swap n l m) = step n (reading (λ σ. address ρ σ l) (λ i. reading (λ σ. address ρ σ m) (λ j. exchange 1 i j)))
exec calls d ρ (conditional_swap n e l m) =
    step n (reading (λ σ. eval ρ σ e) (λ v. reading (λ σ. address ρ σ l) (λ i. reading (λ σ. address ρ σ m) (λ j. exchange v i j))))
exec calls d ρ (branch n e s t) = step n (reading (λ σ. eval ρ σ e) (λ v. choose (eqb v 0) (exec calls d ρ t) (exec calls d ρ s)))
exec calls d ρ (loop n x a b s) =
    step n (reading (λ σ. eval ρ σ (first_bound d a b)) (λ v. reading (λ σ. eval ρ σ (first_bound d b a)) (λ w. counted n (ρ x).base v w (exec calls d ρ s))))
exec calls d ρ (call n k q ls) = step n (reading (λ σ. arguments ρ σ ls) (calls q (turned d k)))
exec calls d ρ (block n xs s) = step n (both (exec calls d ρ s) (block_end n ρ xs))
exec calls d ρ nothing = done
exec calls d ρ (list s t) = in_order d (exec calls d ρ s) (exec calls d ρ t)
