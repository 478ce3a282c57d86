-- The run: what is taken, where the cells are, refusals 19 to 22, and the outcome.
use Rattle.std.specs.Prelude.{ℕ, zero, suc, ◌+◌, ◌-◌, ◌^◌, List, [], ◌∷◌, ◌++◌, Bool, true, not, cond, ◌&&◌, ◌||◌, length, get_or, take, replicate, eqb, leb, ltb}
use Rattle.rules.specs.Words.{Direction}
use Rattle.rules.specs.Image.{Header, header_of, Parts, parts_of, Procedure, procedure_of, Variable, is_array, is_constant, is_secret}
use Rattle.rules.specs.Form.{Verdict, given, ◌then◌, lowest, is_parameter}
use Rattle.rules.specs.Tree.{body_of}
use Rattle.rules.specs.Walk.{type_of}
use Rattle.rules.specs.Check.{verdict}
use Rattle.rules.specs.Machine.{Slot, no_slot, Env, Out, done, stop, choose, Calls, exec}

-- "Taken: image, direction, a list of lengths (one per parameter of the last procedure), the store, work words, a step budget, a trace slice"
-- works: how many work words; room: how long the trace slice is
pub record Given : Type 0 where
  pub image : List ℕ
  pub direction : Direction
  pub lengths : List ℕ
  pub store : List ℕ
  pub works : ℕ
  pub budget : ℕ
  pub room : ℕ

-- "Answer: number, place, steps, trace entries", with the store afterwards and the whole trace, however long
pub record Outcome : Type 0 where
  pub number : ℕ
  pub place : ℕ
  pub steps : ℕ
  pub store : List ℕ
  pub events : List ℕ

-- ---- where the cells are

-- "every local scalar, counter and array": how many cells a local has. Parameters and constants have none.
unfoldable pub room_of : Header → Parts → ℕ → ℕ
room_of h s x = cond (is_parameter h s.procedures x || is_constant (type_of s x)) 0 (cond (is_array (type_of s x)) (type_of s x).extra 1)

-- "in variable order"
unfoldable pub room_before : Header → Parts → ℕ → ℕ
room_before h s zero = 0
room_before h s (suc x) = room_before h s x + room_of h s x

-- "Cells are numbered from 0: the store, then every local": where a local lives
unfoldable pub home : Header → Parts → ℕ → Env
home h s stored x = record { base = stored + room_before h s x; cells = room_of h s x; width = (type_of s x).size; hidden = is_secret (type_of s x) }

-- "the store (one 64-bit word per cell, parameters in order)": where the parameters from y on live, of these lengths, from cell i on
unfoldable pub store_slots : Parts → ℕ → ℕ → List ℕ → List Slot
store_slots s y i [] = []
store_slots s y i (n ∷ ns) = record { base = i; cells = n; width = (type_of s y).size; hidden = is_secret (type_of s y) } ∷ store_slots s (suc y) (i + n) ns

-- A procedure's names: its parameters live where its arguments do, its locals at home; it has no others.
unfoldable pub env_of : Env → Procedure → List Slot → Env
env_of homes q xs y =
    cond (ltb y q.first) no_slot
    (cond (ltb (y - q.first) (length xs)) (get_or xs (y - q.first) no_slot)
    (cond (ltb y (q.first + q.count)) (homes y) no_slot))

-- The bodies of the procedures below p. No call goes to another number.
unfoldable pub calls_below : Header → Parts → Env → ℕ → Calls
calls_below h s homes zero q d xs = done
calls_below h s homes (suc p) q d xs =
    choose (eqb q p) (exec (calls_below h s homes p) d (env_of homes (procedure_of s.procedures p) xs) (body_of h s p)) (calls_below h s homes p q d xs)

-- ---- 19 to 22

-- "the last procedure"
abbrev pub last_of : Header → Parts → Procedure
last_of h s = procedure_of s.procedures (h.procedures - 1)

-- 20: "list of wrong length, scalar not 1, array over 4,096, or sum not the store's length"
unfoldable pub lengths_fit : Parts → ℕ → List ℕ → Bool
lengths_fit s y [] = true
lengths_fit s y (n ∷ ns) = cond (is_array (type_of s y)) (leb n 4096) (eqb n 1) && lengths_fit s (suc y) ns

unfoldable pub sum : List ℕ → ℕ
sum [] = 0
sum (n ∷ ns) = n + sum ns

-- For each cell of the store what f says of its parameter, from parameter y on.
unfoldable pub per_cell : (Variable → ℕ) → Parts → ℕ → List ℕ → List ℕ
per_cell f s y [] = []
per_cell f s y (n ∷ ns) = replicate n (f (type_of s y)) ++ per_cell f s (suc y) ns

abbrev pub sizes : Header → Parts → List ℕ → List ℕ
sizes h s lengths = per_cell (λ v. v.size) s (last_of h s).first lengths

-- Demand 3 speaks of the public cells: those whose secrecy here is 0.
abbrev pub secrecies : Header → Parts → List ℕ → List ℕ
secrecies h s lengths = per_cell (λ v. v.secrecy) s (last_of h s).first lengths

unfoldable pub work_refusal : ℕ → Verdict
work_refusal works = given 19 0 (ltb works 8192)

unfoldable pub lengths_refusal : Header → Parts → List ℕ → List ℕ → Verdict
lengths_refusal h s lengths store =
    given 20 0 (not (eqb (length lengths) (last_of h s).parameters && (lengths_fit s (last_of h s).first lengths && eqb (sum lengths) (length store))))

-- 21: "a cell not below 2^z"
unfoldable pub cell_refusal : Header → Parts → List ℕ → List ℕ → Verdict
cell_refusal h s lengths store = lowest 21 (λ i. ltb (get_or store i 0) (2 ^ get_or (sizes h s lengths) i 0)) 0 (length store)

-- 22: "all cells together over 4,096"
unfoldable pub room_refusal : Header → Parts → List ℕ → Verdict
room_refusal h s store = given 22 0 (ltb 4096 (length store + room_before h s h.variables))

-- "A store is well formed when neither 20 nor 21 is given."
unfoldable pub store_refusal : Header → Parts → List ℕ → List ℕ → Verdict
store_refusal h s lengths store = lengths_refusal h s lengths store then cell_refusal h s lengths store

-- "The check's refusals come first, then 19 to 22 in order"
unfoldable pub entry_refusal : Given → Verdict
entry_refusal g =
    verdict g.image
    then work_refusal g.works
    then store_refusal (header_of g.image) (parts_of g.image) g.lengths g.store
    then room_refusal (header_of g.image) (parts_of g.image) g.store

-- ---- the outcome

-- The last procedure over the store and the locals, which "start at 0".
unfoldable pub execution : Header → Parts → Given → Out
execution h s g =
    calls_below h s (home h s (length g.store)) h.procedures (h.procedures - 1) g.direction (store_slots s (last_of h s).first 0 g.lengths)
    (record { memory = g.store ++ replicate (room_before h s h.variables) 0; left = g.budget; events = [] })

-- "From 23 on they tell what was done before the refusal". "Every refusal leaves the store as at entry."
unfoldable pub outcome_of : Given → Out → Outcome
outcome_of g (done c) = record { number = 0; place = 0; steps = g.budget - c.left; store = take (length g.store) c.memory; events = c.events }
outcome_of g (stop k n c) = record { number = k; place = n; steps = g.budget - c.left; store = g.store; events = c.events }

-- "Up to 22, steps, entries and trace are 0."
unfoldable pub refused_run : Given → Verdict → Outcome
refused_run g v = record { number = v.number; place = v.place; steps = 0; store = g.store; events = [] }

unfoldable pub run : Given → Outcome
run g = cond (eqb (entry_refusal g).number 0) (outcome_of g (execution (header_of g.image) (parts_of g.image) g)) (refused_run g (entry_refusal g))

-- What a slice of this length holds of a list: the first that fit, then zeros.
abbrev pub fitted : ℕ → List ℕ → List ℕ
fitted room xs = take room xs ++ replicate (room - length xs) 0

-- "The trace slice holds the first entries that fit, then zeros."
unfoldable pub trace_after : Given → List ℕ
trace_after g = fitted g.room (run g).events

-- "Work is all 0 after every run, 19 included."
unfoldable pub work_after : Given → List ℕ
work_after g = replicate g.works 0
