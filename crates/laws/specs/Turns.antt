-- The starred turns of document 01: one table of whole images, and one proof by computation.
use Rattle.std.specs.Prelude.{ℕ, ◌^◌, List, [], ◌∷◌, ◌≡◌, refl, length}
use Rattle.rules.specs.Words.{Direction, forward, inverse, opposite, turned, truth, operate, operate1, divides, rotated_left, rotated_right, changed_by, undoing, going, exchanged}
use Rattle.rules.specs.Image.{missing, le32, le64}
use Rattle.rules.specs.Form.{given, ◌then◌, search, lowest, format_refusal, counts_fit, parts_follow, layout_refusal, shared_before, procedure_fits, procedure_refusal, owner, is_parameter, extra_fits, size_fits, variable_fits, variable_refusal, fields, refers, field_fits, operator_fits, record_fits, node_refusal}
use Rattle.rules.specs.Tree.{references_of, node_references, bodies, occurrences, member, reference_refusal, handed, handed_on, handed_down, marked, deeper, depths, begins, chained, stands_in_tree, place_refusal, tree_refusal, range, expr_of, lvalue_of, stmt_of, reading_of, readings, reading_at, body_of, variables, root, index, roots, indices, changed, declared}
use Rattle.rules.specs.Walk.{every, share, repeats, same, secret, passes_array, named, element_refusal, expr_refusal, target_refusal, argument_refusal, arguments_refusal, declarable, swap_clash, same_type, arguments_fit, call_fits, stmt_refusal, undeclared_refusal, body_refusal, walk_refusal}
use Rattle.rules.specs.Check.{form_refusal, verdict_for, slow, verdict}
use Rattle.rules.specs.Machine.{noted, holding, after, and_then, inside, load, divided, eval, address, lent, arguments, step_from, step, on_found, reading, next, both, in_order, choose, change, exchange, put, left_first, turns_of, counted, zeros, cleared, block_end, first_bound, exec}
use Rattle.rules.specs.Run.{Outcome, room_of, room_before, home, store_slots, env_of, calls_below, lengths_fit, sum, per_cell, work_refusal, lengths_refusal, cell_refusal, room_refusal, store_refusal, entry_refusal, execution, outcome_of, refused_run, run}
use Rattle.rules.proofs.Assemble.{bytes, words, joined, procedure, variable_record, node, plain, constants, assembled}

-- ---- the programs; each is one procedure whose body is node 0

abbrev pub u8 : List ℕ
u8 = variable_record 0 0 8 0

abbrev pub u64 : List ℕ
u64 = variable_record 0 0 64 0

abbrev pub secret_u8 : List ℕ
secret_u8 = variable_record 0 1 8 0

abbrev pub array : List ℕ
array = variable_record 1 0 64 0

abbrev pub counter : List ℕ
counter = variable_record 3 0 64 0

-- x OP= v, where x is the one parameter: node 1 is x, node 2 the number v
unfoldable pub updating : List ℕ → ℕ → ℕ → List ℕ
updating x operator v = assembled (procedure 0 1 1 0 ∷ []) (x ∷ []) (node 2 operator 1 2 0 0 missing ∷ plain 21 0 0 0 0 ∷ plain 20 0 0 0 0 ∷ []) (v ∷ [])

-- x += (v OP w)
unfoldable pub operating : List ℕ → ℕ → ℕ → ℕ → List ℕ
operating x operator v w =
    assembled (procedure 0 1 1 0 ∷ []) (x ∷ [])
    (node 2 1 1 2 0 0 missing ∷ plain 21 0 0 0 0 ∷ node 25 operator 3 4 0 0 missing ∷ plain 20 0 0 0 0 ∷ plain 20 1 0 0 0 ∷ []) (v ∷ w ∷ [])

-- if v then x <-> y
unfoldable pub swapping : ℕ → List ℕ
swapping v =
    assembled (procedure 0 2 2 0 ∷ []) (u64 ∷ u64 ∷ [])
    (plain 4 1 2 3 0 ∷ plain 20 0 0 0 0 ∷ plain 21 0 0 0 0 ∷ plain 21 1 0 0 0 ∷ []) (v ∷ [])

-- for (i = 0; 4) { x += i; i += 1; }
unfoldable pub summing : List ℕ
summing =
    assembled (procedure 0 2 1 0 ∷ []) (u64 ∷ counter ∷ [])
    (plain 6 1 1 2 3 ∷ plain 20 0 0 0 0 ∷ plain 20 1 0 0 0 ∷ plain 9 0 0 4 0
    ∷ node 2 1 5 6 0 0 7 ∷ plain 21 0 0 0 0 ∷ plain 21 1 0 0 0
    ∷ node 2 1 8 9 0 0 missing ∷ plain 21 1 0 0 0 ∷ plain 20 2 0 0 0 ∷ []) (0 ∷ 4 ∷ 1 ∷ [])

-- for (i = 3; 3) ;
unfoldable pub still : List ℕ
still = assembled (procedure 0 1 0 0 ∷ []) (counter ∷ []) (plain 6 0 1 2 3 ∷ plain 20 0 0 0 0 ∷ plain 20 0 0 0 0 ∷ plain 1 0 0 0 0 ∷ []) (3 ∷ [])

-- for (i = 0; 2) i ^= 1;
unfoldable pub meeting : List ℕ
meeting =
    assembled (procedure 0 1 0 0 ∷ []) (counter ∷ [])
    (plain 6 0 1 2 3 ∷ plain 20 0 0 0 0 ∷ plain 20 1 0 0 0 ∷ node 2 3 4 5 0 0 missing ∷ plain 21 0 0 0 0 ∷ plain 20 2 0 0 0 ∷ []) (0 ∷ 2 ∷ 1 ∷ [])

-- { secret u8 t; t += x; }
unfoldable pub scratch : List ℕ
scratch =
    assembled (procedure 0 2 1 0 ∷ []) (secret_u8 ∷ secret_u8 ∷ [])
    (plain 9 1 1 1 0 ∷ node 2 1 2 3 0 0 missing ∷ plain 21 1 0 0 0 ∷ plain 21 0 0 0 0 ∷ []) []

-- { }
unfoldable pub bare : List ℕ
bare = assembled (procedure 0 0 0 0 ∷ []) [] (plain 9 0 0 missing 0 ∷ []) []

-- a[0] += size a
unfoldable pub sized : List ℕ
sized = assembled (procedure 0 1 1 0 ∷ []) (array ∷ []) (node 2 1 1 3 0 0 missing ∷ plain 22 0 2 0 0 ∷ plain 20 0 0 0 0 ∷ plain 24 0 0 0 0 ∷ []) (0 ∷ [])

-- x += x
unfoldable pub doubled : List ℕ
doubled = assembled (procedure 0 1 1 0 ∷ []) (u64 ∷ []) (node 2 1 1 2 0 0 missing ∷ plain 21 0 0 0 0 ∷ plain 21 0 0 0 0 ∷ []) []

-- a[a[0]] <-> x
unfoldable pub indexed : List ℕ
indexed =
    assembled (procedure 0 2 2 0 ∷ []) (array ∷ u64 ∷ [])
    (plain 3 1 4 0 0 ∷ plain 22 0 2 0 0 ∷ plain 22 0 3 0 0 ∷ plain 20 0 0 0 0 ∷ plain 21 1 0 0 0 ∷ []) (0 ∷ [])

-- The 40 bytes of "The verdict program".
unfoldable pub printed : List ℕ
printed =
    1 ∷ 0 ∷ 1 ∷ 0 ∷ 0 ∷ 0 ∷ 1 ∷ 0 ∷ 0 ∷ 0 ∷ 20 ∷ 0 ∷ 28 ∷ 0 ∷ 28 ∷ 0 ∷ 40 ∷ 0 ∷ 40 ∷ 0
    ∷ 0 ∷ 0 ∷ 0 ∷ 0 ∷ 0 ∷ 0 ∷ 0 ∷ 0 ∷ 1 ∷ 0 ∷ 0 ∷ 0 ∷ 0 ∷ 0 ∷ 0 ∷ 0 ∷ 0 ∷ 0 ∷ 255 ∷ 255 ∷ []

-- ---- the table

-- number and place
unfoldable pub checks : List ℕ → List ℕ
checks image = (verdict image).number ∷ (verdict image).place ∷ []

unfoldable pub ones : List ℕ → List ℕ
ones [] = []
ones (x ∷ xs) = 1 ∷ ones xs

unfoldable pub answer : Outcome → List ℕ
answer o = o.number ∷ o.place ∷ o.steps ∷ length o.events ∷ o.store

-- number, place, steps, how many entries, then the store afterwards; every parameter is a scalar
unfoldable pub runs : Direction → List ℕ → List ℕ → ℕ → List ℕ
runs direction image store budget = answer (run (record { image = image; direction = direction; lengths = ones store; store = store; works = 8192; budget = budget; room = 0 }))

unfoldable pub most : ℕ
most = 4294967295

-- A row: what the definitions give, and what the document says.
pub record Row : Type 0 where
  pub gives : List ℕ
  pub says : List ℕ

infix 4 ◌gives◌
unfoldable pub ◌gives◌ : List ℕ → List ℕ → Row
◌gives◌ x y = record { gives = x; says = y }

-- Runs: number, place, steps, entries, store. Verdicts: number, place.
unfoldable pub turns : List Row
turns =
    -- "u8 129 rotated left by 18 is 6; 1 by 13 is 32."
    (runs forward (updating u8 4 18) (129 ∷ []) 9 gives 0 ∷ 0 ∷ 1 ∷ 2 ∷ 6 ∷ [])
    ∷ (runs forward (updating u8 4 13) (1 ∷ []) 9 gives 0 ∷ 0 ∷ 1 ∷ 2 ∷ 32 ∷ [])
    -- "u8 250 += 300 gives 38; 1 += (3 < 5) gives 0."
    ∷ (runs forward (updating u8 1 300) (250 ∷ []) 9 gives 0 ∷ 0 ∷ 1 ∷ 2 ∷ 38 ∷ [])
    ∷ (runs forward (operating u8 11 3 5) (1 ∷ []) 9 gives 0 ∷ 0 ∷ 1 ∷ 2 ∷ 0 ∷ [])
    -- "(1 << 63) is 2^63; (1 << 64) is 0."
    ∷ (runs forward (operating u64 15 1 63) (0 ∷ []) 9 gives 0 ∷ 0 ∷ 1 ∷ 2 ∷ 2 ^ 63 ∷ [])
    ∷ (runs forward (operating u64 15 1 64) (0 ∷ []) 9 gives 0 ∷ 0 ∷ 1 ∷ 2 ∷ 0 ∷ [])
    -- "x = 7, y = 9, condition 2: swapped. Condition 0: not."
    ∷ (runs forward (swapping 2) (7 ∷ 9 ∷ []) 9 gives 0 ∷ 0 ∷ 1 ∷ 3 ∷ 9 ∷ 7 ∷ [])
    ∷ (runs forward (swapping 0) (7 ∷ 9 ∷ []) 9 gives 0 ∷ 0 ∷ 1 ∷ 3 ∷ 7 ∷ 9 ∷ [])
    -- "for (i = 0; 4) { x += i; i += 1; } as a body, x = 0: x = 6, 17 steps, 29 entries; inverse from 6: 0, 17 steps. Budget 16 refuses with 23; 17 finishes."
    ∷ (runs forward summing (0 ∷ []) most gives 0 ∷ 0 ∷ 17 ∷ 29 ∷ 6 ∷ [])
    ∷ (runs inverse summing (6 ∷ []) most gives 0 ∷ 0 ∷ 17 ∷ 29 ∷ 0 ∷ [])
    ∷ (runs forward summing (0 ∷ []) 16 gives 23 ∷ 7 ∷ 16 ∷ 27 ∷ 0 ∷ [])
    ∷ (runs forward summing (0 ∷ []) 17 gives 0 ∷ 0 ∷ 17 ∷ 29 ∷ 6 ∷ [])
    -- "for (i = 3; 3): one step."
    ∷ (runs forward still [] most gives 0 ∷ 0 ∷ 1 ∷ 1 ∷ [])
    -- "for (i = 0; 2) i ^= 1; : 28 after 5 steps."
    ∷ (runs forward meeting [] most gives 28 ∷ 0 ∷ 5 ∷ 7 ∷ [])
    -- "A block with secret u8 t and t += x: x = 0 finishes, x = 1 gives 27."
    ∷ (runs forward scratch (0 ∷ []) 9 gives 0 ∷ 0 ∷ 2 ∷ 4 ∷ 0 ∷ [])
    ∷ (runs forward scratch (1 ∷ []) 9 gives 27 ∷ 0 ∷ 2 ∷ 4 ∷ 1 ∷ [])
    -- "A block with neither names nor statements: one step."
    ∷ (runs forward bare [] 9 gives 0 ∷ 0 ∷ 1 ∷ 1 ∷ [])
    -- "All public u64: a[0] += size a accepted; x += x and a[a[0]] <-> x give 11."
    ∷ (checks sized gives 0 ∷ 0 ∷ [])
    ∷ (checks doubled gives 11 ∷ 0 ∷ [])
    ∷ (checks indexed gives 11 ∷ 0 ∷ [])
    -- "For these 40 bytes (hex) it prints `verdict 0 0`"
    ∷ (checks printed gives 0 ∷ 0 ∷ [])
    ∷ []

-- In every row the definitions give what the document says.
infixr 5 ◌also◌
pub data Hold : List Row → Type 0 where
  end : Hold []
  ◌also◌ : {r : Row} {rs : List Row} → r.gives ≡ r.says → Hold rs → Hold (r ∷ rs)

pub starred : Hold turns
unfolding updating operating swapping summing still meeting scratch bare sized doubled indexed printed checks ones runs answer most ◌gives◌ turns bytes words joined constants assembled opposite turned truth operate operate1 divides rotated_left rotated_right changed_by undoing going exchanged le32 le64 given ◌then◌ search lowest format_refusal counts_fit parts_follow layout_refusal shared_before procedure_fits procedure_refusal owner is_parameter extra_fits size_fits variable_fits variable_refusal fields refers field_fits operator_fits record_fits node_refusal references_of node_references bodies occurrences member reference_refusal handed handed_on handed_down marked deeper depths begins chained stands_in_tree place_refusal tree_refusal range expr_of lvalue_of stmt_of reading_of readings reading_at body_of variables root index roots indices changed declared every share repeats same secret passes_array named element_refusal expr_refusal target_refusal argument_refusal arguments_refusal declarable swap_clash same_type arguments_fit call_fits stmt_refusal undeclared_refusal body_refusal walk_refusal form_refusal verdict_for slow verdict noted holding after and_then inside load divided eval address lent arguments step_from step on_found reading next both in_order choose change exchange put left_first turns_of counted zeros cleared block_end first_bound exec room_of room_before home store_slots env_of calls_below lengths_fit sum per_cell work_refusal lengths_refusal cell_refusal room_refusal store_refusal entry_refusal execution outcome_of refused_run run
starred = refl also refl also refl also refl also refl also refl also refl also refl also refl also refl also refl also refl also refl also refl also refl also refl also refl also refl also refl also refl also refl also end
