-- What the functions of a run ask and promise, in terms of the parts that are lent to them.
use Rattle.std.specs.Prelude.{ℕ, ◌+◌, ◌-◌, ◌≤◌, ◌≡◌, List, [], Bool, Result, ⊤, is_ok, cond, length, get_or, take, replicate}
use Rattle.rules.specs.Image.{Header, header_of, Parts, parts_of}
use Rattle.rules.specs.Check.{verdict}
use Rattle.rules.specs.Machine.{Env, no_slot}
use Rattle.rules.specs.Run.{Given, room_before, home, store_slots, last_of, sum, execution}
use Rattle.rules.specs.Promised.{direction_of, Ran}
use Rattle.records.specs.Refusals.{as_verdict}
use Rattle.records.specs.declared.refusal.Refusal.{Refusal}
use Rattle.entry.specs.Slots.{slots_placed}
use Rattle.entry.specs.Refusals.{entry_tests}
use Rattle.records.specs.Slots.{Table}
use Rattle.expressions.specs.Relations.{Matches}
use Rattle.executors.specs.World as executors
use Rattle.executors.specs.World.{World, Stands}
use Rattle.executors.specs.Ways.{stmt_at, Fine, running}
use Rattle.expressions.specs.Standing.{going, came}
use Rattle.expressions.specs.declared.trace.Trace.{Trace}

-- What the run of the rules is given.
abbrev pub as_given : List ℕ → Bool → List ℕ → List ℕ → ℕ → ℕ → ℕ → Given
as_given image inverse lengths store works budget room = record {
  image = image;
  direction = direction_of inverse;
  lengths = lengths;
  store = store;
  works = works;
  budget = budget;
  room = room;
}

-- The header and the parts are those of an image that the check accepts, and none of 19 to 22 is given.
pub record Ready (h : Header) (s : Parts) (works : ℕ) (lengths store : List ℕ) : Type 0 where
  pub image : List ℕ
  pub passed : (verdict image).number ≡ 0
  pub header_is : header_of image ≡ h
  pub parts_are : parts_of image ≡ s
  pub let_in : (entry_tests h s works lengths store).number ≡ 0

-- How many cells a run has: the store, then every local.
abbrev pub cells_of : Header → Parts → ℕ → ℕ
cells_of h s stored = stored + room_before h s h.variables

-- What the table of slots asks: rows for all variables, and few enough cells.
pub record Placing (h : Header) (s : Parts) (lengths : List ℕ) (stored rows : ℕ) : Type 0 where
  pub some : 1 ≤ h.procedures
  pub rows_all : h.variables ≤ rows
  pub cells : cells_of h s stored ≤ 4096
  pub rows_store : (last_of h s).first + length lengths ≤ rows
  pub names : (last_of h s).first + length lengths ≤ 1024
  pub whole : sum lengths ≤ 4096

-- The table at the start: every variable at home, then the last procedure's parameters in the store.
abbrev pub slots_begun : Header → Parts → List ℕ → ℕ → Table → Table
slots_begun h s lengths stored slots =
    slots_placed (λ y. get_or (store_slots s (last_of h s).first 0 lengths) (y - (last_of h s).first) no_slot) (last_of h s).first (length lengths)
    (slots_placed (home h s stored) 0 h.variables slots)

pub record Placed (h : Header) (s : Parts) (lengths : List ℕ) (stored : ℕ) (slots slots' : Table) (total : ℕ) : Type 0 where
  pub total-is : total ≡ cells_of h s stored
  pub slots_are : slots' ≡ slots_begun h s lengths stored slots

-- A run begins with work words and a trace of zeros, and no entries.
pub record Begins (work : List ℕ) (trace : Trace) : Type 0 where
  pub work_value : work ≡ replicate (length work) 0
  pub trace_value : trace.events.now ≡ replicate (length trace.events.now) 0
  pub none : trace.run.entries ≡ 0

-- What the executors promise of node n of procedure p, over these cells and slots.
abbrev pub Executed : Parts → Bool → ℕ → ℕ → List ℕ → Table → Trace → List ℕ → Table → Result ⊤ Refusal → Trace → Type 0
Executed s inverse p n cells slots trace cells' slots' r trace' =
    (w : World s.nodes s.procedures s.variables s.constants) (ρ : Env) → Stands w p slots ρ → Fine w p (stmt_at w n)
    → executors.Ran s.procedures p (running w p (direction_of inverse) ρ (stmt_at w n)) cells slots trace.events.now (going trace) cells' slots' trace'.events.now (came r trace')

-- The last procedure was run over the first work words.
pub record Worked (h : Header) (s : Parts) (inverse : Bool) (lengths stored : List ℕ) (trace : Trace) (work : List ℕ) (r : Result ⊤ Refusal) (trace' : Trace) : Type 0 where
  pub is : Matches (execution h s (as_given [] inverse lengths stored 0 trace.run.left 0)) (take (cells_of h s (length stored)) work) trace'.events.now (came r trace')

-- How a run ends: the store copied out where nothing was refused, and the work words cleared.
pub record Finished (stored work : List ℕ) (r : Result ⊤ Refusal) (stored' work' : List ℕ) : Type 0 where
  pub stored_is : stored' ≡ cond (is_ok r) (take (length stored) work) stored
  pub work_is : work' ≡ replicate (length work) 0

-- "number, place, steps, trace entries", the store, the work words and the trace, from one run, with its steps before it, to the other.
abbrev pub RanBy : List ℕ → Bool → List ℕ → List ℕ → List ℕ → Trace → Result ⊤ Refusal → List ℕ → List ℕ → Trace → Type 0
RanBy image inverse lengths store work trace r store' work' trace' =
    Ran (as_given image inverse lengths store (length work) trace.run.left (length trace.events.now))
    (as_verdict r).number (as_verdict r).place (trace.run.left - trace'.run.left) trace'.run.entries store' work' trace'.events.now
