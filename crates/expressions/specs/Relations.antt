-- What the lent slices and the numbers of the code stand for: the trace, the slots, the program, what is worked out, a run's state.
unfoldable pub use Rattle.rules.specs.Promised.{direction_of}
use Rattle.std.specs.Prelude.{ℕ, ◌+◌, ◌-◌, ◌*◌, ◌^◌, ◌≤◌, ◌<◌, ◌≡◌, List, [], ◌∷◌, ◌++◌, Bool, true, ◌⊎◌, length, get_or, take, replicate, min}
use Rattle.rules.specs.Image.{missing, Header, Parts, node_of, is_expression, is_lvalue}
use Rattle.rules.specs.Form.{record_fits}
use Rattle.rules.specs.Machine.{Slot, no_slot, Env, State, Out, done, stop, Command, Found, found, fault}
use Rattle.records.specs.declared.LValue.{LValue}
use Rattle.records.specs.declared.LValue.TheVariants.{Variable, Element, Unsafe}
pub use Rattle.records.specs.LValues.{root_of}
pub use Rattle.records.specs.Slots.{Table, slot_of}

-- How far a run has come: its refusal, which is 0 while it goes on, the place, the steps that are left, the trace's entries.
pub record Run : Type 0 where
  pub number : ℕ
  pub place : ℕ
  pub left : ℕ
  pub entries : ℕ

-- What is worked out: a value, or a refusal and its place where the number is not 0; and the trace's entries after it.
pub record Valued : Type 0 where
  pub value : ℕ
  pub number : ℕ
  pub place : ℕ
  pub entries : ℕ

-- ---- the trace

-- A count of 64 bits that stays where it can go no further.
unfoldable pub saturated : ℕ → ℕ
saturated n = min n (2 ^ 64 - 1)

-- "The trace slice holds the first entries that fit, then zeros", of the events so far, and `entries` is how many there are.
pub record Traced (trace : List ℕ) (entries : ℕ) (events : List ℕ) : Type 0 where
  pub shown : trace ≡ take (length trace) events ++ replicate (length trace - length events) 0
  pub counted : entries ≡ saturated (length events)

-- One event more, whatever was before.
abbrev pub Emitted : ℕ → List ℕ → ℕ → List ℕ → ℕ → Type 0
Emitted event trace entries trace' entries' = (events : List ℕ) → Traced trace entries events → Traced trace' entries' (events ++ (event ∷ []))

-- ---- where variables live

-- A slot whose size is a word's, and whose cells are among the 4,096.
pub record Good (x : Slot) : Type 0 where
  pub some : 0 < x.width
  pub most : x.width ≤ 64
  pub placed : x.base + x.cells ≤ 4096

-- Every name from lo on, below hi, lives where the slots say, in a good slot, and there are slots for all names before them.
pub record Agree (slots : Table) (ρ : Env) (lo hi : ℕ) : Type 0 where
  pub rows : (y : ℕ) → lo ≤ y → y < hi → slot_of slots y ≡ ρ y
  pub good : (y : ℕ) → lo ≤ y → y < hi → Good (ρ y)
  pub room : lo ≤ length slots

-- ---- the program

-- The parts that are lent are those of an image whose nodes' records fit.
pub record Program (h : Header) (s : Parts) (nodes variables constants : List ℕ) : Type 0 where
  pub nodes_are : s.nodes ≡ nodes
  pub variables-are : s.variables ≡ variables
  pub constants-are : s.constants ≡ constants
  pub long : h.nodes * 12 ≡ length nodes
  pub few : h.nodes ≤ 4096
  pub fit : (n : ℕ) → n < h.nodes → record_fits h nodes n (node_of nodes n) ≡ true

-- The parts of which only the nodes are known: what a node refers to does not depend on the others.
abbrev pub bare : List ℕ → Parts
bare nodes = record { procedures = []; variables = []; nodes = nodes; constants = [] }

-- Node n is one of nodes whose records fit, and of this class: what ending rests on, since references go to larger numbers.
pub record Readable (class : ℕ → Bool) (nodes : List ℕ) (n : ℕ) : Type 0 where
  pub header : Header
  pub long : header.nodes * 12 ≡ length nodes
  pub few : header.nodes ≤ 4096
  pub fit : (m : ℕ) → m < header.nodes → record_fits header nodes m (node_of nodes m) ≡ true
  pub inside : n < header.nodes
  pub classed : class (node_of nodes n).kind ≡ true

-- The index of an L-value can be worked out.
unfoldable pub Indexed : List ℕ → LValue → Type 0
Indexed nodes (Variable n x) = Unit
Indexed nodes (Element n x i) = Readable is_expression nodes i
Indexed nodes (Unsafe n x i) = Readable is_expression nodes i

-- Node n is an argument, or missing.
abbrev pub Chained : List ℕ → ℕ → Type 0
Chained nodes n = (n ≡ missing → ⊥) → Readable is_lvalue nodes n

-- ---- what is worked out

pub record Finding (ok : Type 0) (t events trace : List ℕ) (number entries : ℕ) : Type 0 where
  pub going : number ≡ 0
  pub is : ok
  pub traced : Traced trace entries (events ++ t)

pub record Failing (k m : ℕ) (t events trace : List ℕ) (number place entries : ℕ) : Type 0 where
  pub number_is : number ≡ k
  pub refusal : 0 < k
  pub place_is : place ≡ m
  pub traced : Traced trace entries (events ++ t)

-- After these events, number, place and entries answer for what was found, or for its refusal.
pub data Answers {A : Type 0} (ok : A → Type 0) : Found A → List ℕ → List ℕ → ℕ → ℕ → ℕ → Type 0 where
  finding : {v : A} {t events trace : List ℕ} {number place entries : ℕ} → Finding (ok v) t events trace number entries
      → Answers ok (found v t) events trace number place entries
  failing : {k m : ℕ} {t events trace : List ℕ} {number place entries : ℕ} → Failing k m t events trace number place entries
      → Answers ok (fault k m t) events trace number place entries

abbrev pub answer : ℕ → ℕ → ℕ → ℕ → Valued
answer value number place entries = record { value = value; number = number; place = place; entries = entries }

-- The answer is the value that was found, or its refusal.
abbrev pub Got : Found ℕ → List ℕ → List ℕ → Valued → Type 0
Got A events trace r = Answers (λ v. r.value ≡ v) A events trace r.number r.place r.entries

-- The same, whatever the events were before.
abbrev pub Gets : Found ℕ → List ℕ → ℕ → List ℕ → Valued → Type 0
Gets A trace entries trace' r = (events : List ℕ) → Traced trace entries events → Got A events trace' r

-- ---- a run's state

-- A run that goes on with an answer, or is refused by it.
pub record After (run : Run) (number place entries : ℕ) (r : Run) : Type 0 where
  pub number_is : r.number ≡ number
  pub place_is : r.place ≡ place
  pub left_is : r.left ≡ run.left
  pub entries_are : r.entries ≡ entries

-- The run goes on, in this state.
pub record Holds (c : State) (cells trace : List ℕ) (run : Run) : Type 0 where
  pub going : run.number ≡ 0
  pub memory_is : c.memory ≡ cells
  pub left_is : c.left ≡ run.left
  pub traced : Traced trace run.entries c.events

-- The run was refused. What the cells are is not asked.
pub record Stopped (k n : ℕ) (c : State) (trace : List ℕ) (run : Run) : Type 0 where
  pub number_is : run.number ≡ k
  pub refusal : 0 < k
  pub place_is : run.place ≡ n
  pub left_is : c.left ≡ run.left
  pub traced : Traced trace run.entries c.events

pub data Matches : Out → List ℕ → List ℕ → Run → Type 0 where
  goes_on : {c : State} {cells trace : List ℕ} {run : Run} → Holds c cells trace run → Matches (done c) cells trace run
  is_stopped : {k n : ℕ} {c : State} {cells trace : List ℕ} {run : Run} → Stopped k n c trace run → Matches (stop k n c) cells trace run

-- The code does what the command does, from every state that its numbers stand for.
abbrev pub Does : Command → List ℕ → List ℕ → Run → List ℕ → List ℕ → Run → Type 0
Does f cells trace run cells' trace' run' = (c : State) → Holds c cells trace run → Matches (f c) cells' trace' run'

-- ---- arguments

-- The table from y on has these slots.
abbrev pub Rows : Table → ℕ → List Slot → Type 0
Rows slots y xs = (j : ℕ) → j < length xs → slot_of slots (y + j) ≡ get_or xs j no_slot

-- All slots but the count ones from y on are as before.
abbrev pub Apart : Table → Table → ℕ → ℕ → Type 0
Apart slots slots' y count = (x : ℕ) → (x < y) ⊎ (y + count ≤ x) → slot_of slots' x ≡ slot_of slots x

-- The slots that were found stand in the table from y on, or it is the refusal.
abbrev pub Lends : Found (List Slot) → ℕ → List ℕ → Table → List ℕ → Run → Type 0
Lends A y events slots trace r = Answers (λ xs. Rows slots y xs) A events trace r.number r.place r.entries
