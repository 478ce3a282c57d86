-- Document 01's traps and impostors, each pinned by one equation that the definitions compute: a definition that falls for one is refused here.
-- How the small programs are written down is said in Programs.
use Prim.Native.Nat.{ℕ, ◌+◌}
use mathlib.Core.List.{List, [], ◌∷◌}
use mathlib.Core.Path.{◌≡◌, refl}
use Rattle.rules.specs.Words.{Direction, forward, inverse}
use Rattle.rules.specs.Image.{missing}
use Rattle.rules.specs.Form.{refused, accepted}
use Rattle.rules.specs.Check.{verdict}
use Rattle.rules.specs.Run.{Outcome, run, work_after}
use Rattle.rules.proofs.Assemble.{procedure, node, plain}
use Rattle.rules.proofs.Opened.{definitions}
use Rattle.rules.proofs.Programs.{public, hidden, scalar, array, constant, counter, num, var, element, binary, empty, increase, toggle, block, program, programs}

-- ---- the checker: two impostors

-- a checker that refuses everything
accepts_some : verdict (program 0 [] (block 0 0 missing missing ∷ []) []) ≡ accepted
unfolding definitions program
accepts_some = refl

-- one verdict for all
refuses_some : verdict (program 0 [] (block 0 0 0 missing ∷ []) []) ≡ refused 5 0
unfolding definitions program
refuses_some = refl

-- ---- 7 and 8

-- { { u64 t; } { u64 t; } }: a name declared in two scopes that do not meet
declared-again : verdict (program 0 (scalar public ∷ []) (block 0 0 1 missing ∷ block 0 1 missing 2 ∷ block 0 1 missing missing ∷ []) []) ≡ refused 7 2
unfolding definitions program
declared-again = refl

-- { } beside a constant that nothing declares
undeclared_constant : verdict (program 0 (constant 0 ∷ []) (block 0 0 missing missing ∷ []) (9 ∷ [])) ≡ refused 8 0
unfolding definitions program
undeclared_constant = refl

-- ---- 10 and 13: secrets

-- if s then ; else ;
secret-condition : verdict (program 1 (scalar hidden ∷ []) (plain 5 1 2 3 0 ∷ var 0 ∷ empty ∷ empty ∷ []) []) ≡ refused 10 0
unfolding definitions program
secret-condition = refl

-- for (i = 0; s) ;
secret-bound : verdict (program 1 (scalar hidden ∷ counter ∷ []) (plain 6 1 1 2 3 ∷ num 0 ∷ var 0 ∷ empty ∷ []) (0 ∷ [])) ≡ refused 10 0
unfolding definitions program
secret-bound = refl

-- s += a[t]
secret-index : verdict (program 3 (scalar hidden ∷ array hidden ∷ scalar hidden ∷ []) (increase 1 2 missing ∷ var 0 ∷ element 1 3 ∷ var 2 ∷ []) []) ≡ refused 10 2
unfolding definitions program
secret-index = refl

-- x += s
secret-into_public : verdict (program 2 (scalar public ∷ scalar hidden ∷ []) (increase 1 2 missing ∷ var 0 ∷ var 1 ∷ []) []) ≡ refused 10 0
unfolding definitions program
secret-into_public = refl

-- if s then x <-> y as a conditional swap
secret-swap_condition : verdict (program 3 (scalar hidden ∷ scalar public ∷ scalar public ∷ []) (plain 4 1 2 3 0 ∷ var 0 ∷ var 1 ∷ var 2 ∷ []) []) ≡ refused 10 0
unfolding definitions program
secret-swap_condition = refl

-- s += t % 3, s += t / 3
secret-remainder : verdict (program 2 (scalar hidden ∷ scalar hidden ∷ []) (increase 1 2 missing ∷ var 0 ∷ binary 5 3 4 ∷ var 1 ∷ num 0 ∷ []) (3 ∷ [])) ≡ refused 13 2
unfolding definitions program
secret-remainder = refl

secret-quotient : verdict (program 2 (scalar hidden ∷ scalar hidden ∷ []) (increase 1 2 missing ∷ var 0 ∷ binary 4 3 4 ∷ var 1 ∷ num 0 ∷ []) (3 ∷ [])) ≡ refused 13 2
unfolding definitions program
secret-quotient = refl

-- ---- 11: roots

-- x += x
root-in_value : verdict (program 1 (scalar public ∷ []) (increase 1 2 missing ∷ var 0 ∷ var 0 ∷ []) []) ≡ refused 11 0
unfolding definitions program
root-in_value = refl

-- a[a[0]] <-> x: a swap whose own index names its root
own-index : verdict (program 2 (array public ∷ scalar public ∷ []) (plain 3 1 4 0 0 ∷ element 0 2 ∷ element 0 3 ∷ num 0 ∷ var 1 ∷ []) (0 ∷ [])) ≡ refused 11 0
unfolding definitions program
own-index = refl

-- if x then x <-> y as a conditional swap
root-in_condition : verdict (program 2 (scalar public ∷ scalar public ∷ []) (plain 4 1 2 3 0 ∷ var 0 ∷ var 0 ∷ var 1 ∷ []) []) ≡ refused 11 0
unfolding definitions program
root-in_condition = refl

-- if x then x += 1 else ;
changed-in_branch : verdict (program 1 (scalar public ∷ []) (plain 5 1 2 5 0 ∷ var 0 ∷ increase 3 4 missing ∷ var 0 ∷ num 0 ∷ empty ∷ []) (1 ∷ [])) ≡ refused 11 0
unfolding definitions program
changed-in_branch = refl

-- for (i = 0; x) x += 1;
changed-in_body : verdict (program 1 (scalar public ∷ counter ∷ []) (plain 6 1 1 2 3 ∷ num 0 ∷ var 0 ∷ increase 4 5 missing ∷ var 0 ∷ num 1 ∷ []) (0 ∷ 1 ∷ [])) ≡ refused 11 0
unfolding definitions program
changed-in_body = refl

-- p(x, x), where p(u64, u64) is an empty body
one-root-twice : verdict (programs (procedure 0 2 2 0 ∷ procedure 2 1 1 1 ∷ []) (scalar public ∷ scalar public ∷ scalar public ∷ []) (empty ∷ plain 7 0 2 0 0 ∷ node 21 0 2 0 0 0 3 ∷ var 2 ∷ []) []) ≡ refused 11 1
unfolding definitions programs
one-root-twice = refl

-- ---- the runner

abbrev ran : Direction → List ℕ → List ℕ → List ℕ → Outcome
ran direction image lengths store = run (record { image = image; direction = direction; lengths = lengths; store = store; works = 8192; budget = 9; room = 0 })

abbrev outcome : ℕ → ℕ → ℕ → List ℕ → List ℕ → Outcome
outcome number place steps store events = record { number = number; place = place; steps = steps; store = store; events = events }

abbrev cell : ℕ → ℕ
cell i = 65536 + i

-- { x += 1; x ^= 6; }: a runner that does nothing, and one that executes the first statement and then reports the end
unfoldable pub pair : List ℕ
unfolding program
pair = program 1 (scalar public ∷ []) (block 0 0 1 missing ∷ increase 2 3 4 ∷ var 0 ∷ num 0 ∷ toggle 5 6 missing ∷ var 0 ∷ num 1 ∷ []) (1 ∷ 6 ∷ [])

whole_list : ran forward pair (1 ∷ []) (4 ∷ []) ≡ outcome 0 0 3 (3 ∷ []) (0 ∷ 1 ∷ cell 0 ∷ 4 ∷ cell 0 ∷ [])
unfolding definitions pair
whole_list = refl

-- a list that is run inverse goes backwards
list_backwards : ran inverse pair (1 ∷ []) (3 ∷ []) ≡ outcome 0 0 3 (4 ∷ []) (0 ∷ 4 ∷ cell 0 ∷ 1 ∷ cell 0 ∷ [])
unfolding definitions pair
list_backwards = refl

-- for (i = x; y) i ^= 1; with x = 0 and y = 2: the counter meets its first bound
unfoldable pub meeting : List ℕ
unfolding program
meeting = program 2 (scalar public ∷ scalar public ∷ counter ∷ []) (plain 6 2 1 2 3 ∷ var 0 ∷ var 1 ∷ toggle 4 5 missing ∷ var 2 ∷ num 0 ∷ []) (1 ∷ [])

first_bound-met : ran forward meeting (1 ∷ 1 ∷ []) (0 ∷ 2 ∷ []) ≡ outcome 28 0 5 (0 ∷ 2 ∷ []) (0 ∷ cell 0 ∷ cell 1 ∷ 0 ∷ 3 ∷ cell 2 ∷ 0 ∷ 3 ∷ cell 2 ∷ [])
unfolding definitions meeting
first_bound-met = refl

-- inverse: field c is worked out first, and 28 is about it
inverse_for : ran inverse meeting (1 ∷ 1 ∷ []) (0 ∷ 2 ∷ []) ≡ outcome 28 0 5 (0 ∷ 2 ∷ []) (0 ∷ cell 1 ∷ cell 0 ∷ 0 ∷ 3 ∷ cell 2 ∷ 0 ∷ 3 ∷ cell 2 ∷ [])
unfolding definitions meeting
inverse_for = refl

-- if 0 then x <-> y: a conditional swap that does not happen still writes both cells
not_swapped : ran forward (program 2 (scalar public ∷ scalar public ∷ []) (plain 4 1 2 3 0 ∷ num 0 ∷ var 0 ∷ var 1 ∷ []) (0 ∷ [])) (1 ∷ 1 ∷ []) (7 ∷ 9 ∷ [])
    ≡ outcome 0 0 1 (7 ∷ 9 ∷ []) (0 ∷ cell 0 ∷ cell 1 ∷ [])
unfolding definitions program
not_swapped = refl

-- { secret u64 t; u64 p; t += x; p += 1; }: the secret local comes first by number, the public one decides
both_left : ran forward (program 1 (scalar hidden ∷ scalar hidden ∷ scalar public ∷ []) (block 1 2 1 missing ∷ increase 2 3 4 ∷ var 1 ∷ var 0 ∷ increase 5 6 missing ∷ var 2 ∷ num 0 ∷ []) (1 ∷ [])) (1 ∷ []) (5 ∷ [])
    ≡ outcome 26 0 3 (5 ∷ []) (0 ∷ 1 ∷ cell 0 ∷ cell 1 ∷ 4 ∷ cell 2 ∷ [])
unfolding definitions program
both_left = refl

-- { u64 p; x += 1; p += 1; }: a refused run leaves the store as at entry
refused-undone : ran forward (program 1 (scalar public ∷ scalar public ∷ []) (block 1 1 1 missing ∷ increase 2 3 4 ∷ var 0 ∷ num 0 ∷ increase 5 6 missing ∷ var 1 ∷ num 0 ∷ []) (1 ∷ [])) (1 ∷ []) (5 ∷ [])
    ≡ outcome 26 0 3 (5 ∷ []) (0 ∷ 1 ∷ cell 0 ∷ 4 ∷ cell 1 ∷ [])
unfolding definitions program
refused-undone = refl

-- key words in work, left by a refused run: 19 here
work_cleared : work_after (record { image = pair; direction = forward; lengths = 1 ∷ []; store = 7 ∷ []; works = 2; budget = 9; room = 0 }) ≡ 0 ∷ 0 ∷ []
unfolding definitions pair
work_cleared = refl
