-- What the executors rest on: the program that the lent parts are, and where the names of the running procedure live.
use Rattle.std.specs.Prelude.{ℕ, ◌+◌, ◌*◌, ◌≤◌, ◌<◌, ◌≡◌, List, true, length}
use Rattle.rules.specs.Image.{missing, Header, Parts, procedure_of, node_of, is_statement}
use Rattle.rules.specs.Form.{record_fits}
use Rattle.rules.specs.Tree.{body_of}
use Rattle.rules.specs.Machine.{Env, State, Out, Command}
use Rattle.records.specs.Cases.{Refers}
use Rattle.records.specs.declared.Node as case
use Rattle.expressions.specs.Relations.{Table, Run, slot_of, Good, Agree, Program, bare, Holds, Matches}
use Rattle.expressions.specs.Names.{Within}

-- ---- what ending rests on: references go to larger node numbers, and calls to smaller procedures

pub record Code (nodes : List ℕ) : Type 0 where
  pub header : Header
  pub long : header.nodes * 12 ≡ length nodes
  pub few : header.nodes ≤ 4096
  pub narrow : header.variables ≤ 1024
  pub fit : (m : ℕ) → m < header.nodes → record_fits header nodes m (node_of nodes m) ≡ true

-- Node n is a statement.
pub record Statement (nodes : List ℕ) (n : ℕ) : Type 0 where
  pub code : Code nodes
  pub inside : n < code.header.nodes
  pub classed : is_statement (node_of nodes n).kind ≡ true

-- Node n is a statement, or missing.
abbrev pub Chain : List ℕ → ℕ → Type 0
Chain nodes n = (n ≡ missing → ⊥) → Statement nodes n

-- The bodies of the procedures below p are statements.
abbrev pub Bodies : List ℕ → List ℕ → ℕ → Type 0
Bodies nodes procedures p = (q : ℕ) → q < p → Statement nodes (procedure_of procedures q).body

-- What the case of node n refers to.
pub record Opened (nodes : List ℕ) (n : ℕ) (x : case.Node) : Type 0 where
  pub code : Code nodes
  pub inside : n < code.header.nodes
  pub refers : Refers code.header (bare nodes) n x

-- ---- the program, and the homes of its locals

abbrev pub parameters_of : List ℕ → ℕ → ℕ
parameters_of procedures q = (procedure_of procedures q).parameters

-- The names of a procedure: from here on, below there. Its locals come after its parameters.
abbrev pub low_of : List ℕ → ℕ → ℕ
low_of procedures p = (procedure_of procedures p).first

abbrev pub high_of : List ℕ → ℕ → ℕ
high_of procedures p = (procedure_of procedures p).first + (procedure_of procedures p).count

abbrev pub locals_of : List ℕ → ℕ → ℕ
locals_of procedures p = (procedure_of procedures p).first + (procedure_of procedures p).parameters

-- The parts that are lent are those of a program whose trees keep to their names, and whose locals have good homes.
pub record World (nodes procedures variables constants : List ℕ) : Type 0 where
  pub h : Header
  pub s : Parts
  pub homes : Env
  pub program : Program h s nodes variables constants
  pub procedures_are : s.procedures ≡ procedures
  pub apart : (q p : ℕ) → q < p → p < h.procedures → high_of procedures q ≤ low_of procedures p
  pub parameters : (q : ℕ) → q < h.procedures → locals_of procedures q ≤ high_of procedures q
  pub within : (q : ℕ) → q < h.procedures → Within (parameters_of procedures) q (low_of procedures q) (high_of procedures q) (body_of h s q)
  pub good : (q y : ℕ) → q < h.procedures → locals_of procedures q ≤ y → y < high_of procedures q → Good (homes y)

-- The names of procedure p live where ρ says, and the locals of every procedure below it are at home.
pub record Stands {nodes procedures variables constants : List ℕ} (w : World nodes procedures variables constants) (p : ℕ) (slots : Table) (ρ : Env) : Type 0 where
  pub mine : p < w.h.procedures
  pub agree : Agree slots ρ (low_of procedures p) (high_of procedures p)
  pub home : (q y : ℕ) → q < p → locals_of procedures q ≤ y → y < high_of procedures q → slot_of slots y ≡ w.homes y

-- Variable y is no parameter of a procedure below p.
abbrev pub Untouched : List ℕ → ℕ → ℕ → Type 0
Untouched procedures p y = (q : ℕ) → q < p → low_of procedures q ≤ y → y < locals_of procedures q → ⊥

-- A statement of procedure p writes no rows but those of the parameters of procedures below it.
pub record Kept (procedures : List ℕ) (p : ℕ) (slots slots' : Table) : Type 0 where
  pub row : (y : ℕ) → Untouched procedures p y → slot_of slots' y ≡ slot_of slots y

-- A run has come to this end, and has kept its rows.
pub record Ended (procedures : List ℕ) (p : ℕ) (o : Out) (slots : Table) (cells' : List ℕ) (slots' : Table) (trace' : List ℕ) (run' : Run) : Type 0 where
  pub is : Matches o cells' trace' run'
  pub kept : Kept procedures p slots slots'

-- The code does what the command of procedure p does, from every state that its numbers stand for.
abbrev pub Ran : List ℕ → ℕ → Command → List ℕ → Table → List ℕ → Run → List ℕ → Table → List ℕ → Run → Type 0
Ran procedures p f cells slots trace run cells' slots' trace' run' = (c : State) → Holds c cells trace run → Ended procedures p (f c) slots cells' slots' trace' run'

-- What f does from the state c is what g does from a state that the numbers now stand for.
pub record Reaches (f : Command) (c : State) (g : Command) (cells trace : List ℕ) (run : Run) : Type 0 where
  pub to : State
  pub holds : Holds to cells trace run
  pub same : f c ≡ g to

-- The same from every state that its numbers stood for.
abbrev pub Leads : Command → List ℕ → List ℕ → Run → Command → List ℕ → List ℕ → Run → Type 0
Leads f cells trace run g cells' trace' run' = (c : State) → Holds c cells trace run → Reaches f c g cells' trace' run'
