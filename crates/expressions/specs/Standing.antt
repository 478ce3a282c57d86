-- What the code's results, its trace, its memory and its run stand for, and what of them stays.
use Rattle.std.specs.Prelude.{ℕ, ◌≤◌, ◌≡◌, List, Result, Ok, Err, ⊤, length}
use Rattle.std.proofs.Common.{◌∙◌, arith}
use Rattle.records.specs.Refusals.{number_of}
use Rattle.records.specs.declared.refusal.Refusal.{Refusal}
use Rattle.rules.specs.Machine.{Slot, Command, Found}
use Rattle.expressions.specs.Relations.{Table, Valued, answer, Program, Emitted, Gets, Does, Lends}
use Rattle.expressions.specs.Relations as relations
use Rattle.rules.specs.Image as rules
use Rattle.rules.specs.Image.{Header}
use Rattle.records.specs.declared.parts.Parts.{Parts}
use Rattle.expressions.specs.declared.trace.Trace.{Trace}
use Rattle.expressions.specs.declared.memory.Memory.{Memory}

-- A value or a refusal, with the trace's entries after it.
abbrev pub valued : Result ℕ Refusal → ℕ → Valued
valued (Ok v) entries = answer v 0 0 entries
valued (Err r) entries = answer 0 (number_of r.rule) r.place entries

-- Where a run has come to, with this verdict.
abbrev pub ran : Result ⊤ Refusal → ℕ → ℕ → relations.Run
ran (Ok x) left entries = record { number = 0; place = 0; left = left; entries = entries }
ran (Err r) left entries = record { number = number_of r.rule; place = r.place; left = left; entries = entries }

-- A run that goes on.
abbrev pub on : ℕ → Trace → relations.Run
on left trace = record { number = 0; place = 0; left = left; entries = trace.run.entries }

abbrev pub going : Trace → relations.Run
going trace = on trace.run.left trace

abbrev pub came : Result ⊤ Refusal → Trace → relations.Run
came verdict trace = ran verdict trace.run.left trace.run.entries

abbrev pub Emits : ℕ → Trace → Trace → Type 0
Emits event trace trace' = Emitted event trace.events.now trace.run.entries trace'.events.now trace'.run.entries

-- The events go to the same slice, which keeps its length.
abbrev pub SameEvents : Trace → Trace → Type 0
SameEvents trace trace' = (trace'.events.ghost_name ≡ trace.events.ghost_name) × (length trace'.events.now ≡ length trace.events.now)

-- The same, where no step is taken: as many are left as before.
abbrev pub SameSteps : Trace → Trace → Type 0
SameSteps trace trace' = SameEvents trace trace' × (trace'.run.left ≡ trace.run.left)

-- The same of a run that takes steps: it has no more of them left.
abbrev pub SameRun : Trace → Trace → Type 0
SameRun trace trace' = SameEvents trace trace' × (trace'.run.left ≤ trace.run.left)

-- What is worked out: the value that was found, or its refusal, with the trace that it leaves.
abbrev pub Finds : Found ℕ → Trace → Result ℕ Refusal → Trace → Type 0
Finds A trace r trace' = Gets A trace.events.now trace.run.entries trace'.events.now (valued r trace'.run.entries)

-- The cells are written where they stand; all else of the memory stays.
abbrev pub KeepsSlots : Memory → Memory → Type 0
KeepsSlots m m' = (m'.parts ≡ m.parts) × (m'.slots ≡ m.slots) × (m'.cells.ghost_name ≡ m.cells.ghost_name) × (length m'.cells.now ≡ length m.cells.now)

-- The parts are those of the program.
abbrev pub ProgramOf : Header → rules.Parts → Parts → Type 0
ProgramOf h s parts = Program h s parts.nodes.now parts.variables.now parts.constants.now

-- What is done: the command, from the run before to the run after.
abbrev pub Acts : Command → List ℕ → Trace → List ℕ → Result ⊤ Refusal → Trace → Type 0
Acts f cells trace cells' verdict trace' = Does f cells trace.events.now (going trace) cells' trace'.events.now (came verdict trace')

-- What is written and cannot be refused, however many steps are left.
abbrev pub Writes : Command → List ℕ → Trace → List ℕ → Trace → Type 0
Writes f cells trace cells' trace' = (left : ℕ) → Does f cells trace.events.now (on left trace) cells' trace'.events.now (on left trace')

-- The rows are written where they stand; all else of the memory stays.
abbrev pub KeepsCells : Memory → Memory → Type 0
KeepsCells m m' = (m'.parts ≡ m.parts) × (m'.cells ≡ m.cells) × (m'.slots.ghost_name ≡ m.slots.ghost_name) × (length m'.slots.now ≡ length m.slots.now)

-- What the arguments lend stands in the rows from y on, or it is the refusal.
abbrev pub LendsBy : Found (List Slot) → ℕ → List ℕ → Table → Result ⊤ Refusal → Trace → Type 0
LendsBy A y events slots verdict trace = Lends A y events slots trace.events.now (ran verdict 0 trace.run.entries)

-- The memory's parts are the same, and its cells and rows are written where they stand.
abbrev pub SameMemory : Memory → Memory → Type 0
SameMemory m m' =
    (m'.parts ≡ m.parts) × (m'.cells.ghost_name ≡ m.cells.ghost_name) × (length m'.cells.now ≡ length m.cells.now)
    × (m'.slots.ghost_name ≡ m.slots.ghost_name) × (length m'.slots.now ≡ length m.slots.now)

pub same_memory : (a b c : Memory) → SameMemory a b → SameMemory b c → SameMemory a c
same_memory a b c s t = (t.0 ∙ s.0, t.1 ∙ s.1, t.2 ∙ s.2, t.3 ∙ s.3, t.4 ∙ s.4)

pub same_run : (a b c : Trace) → SameRun a b → SameRun b c → SameRun a c
same_run a b c s t = ((t.0.0 ∙ s.0.0, t.0.1 ∙ s.0.1), omega (arith, s.1, t.1))
