-- What a decoded node refers to and means, in the program that the lent parts are.
use Rattle.std.specs.Prelude.{ℕ, ◌≤◌, ◌<◌, ◌≡◌, refl, List, [], ◌∷◌, Bool, true, ◌⊎◌, eqb, leb, Option, Some, None, Result, Ok, Err}
use Rattle.std.proofs.Common.{ap, ◌∙◌, ⊎_elim, arith, leb-true}
use Rattle.std.proofs.lemmas.Bool.{and_parts, cond_both, eqb-false}
use types.Run.{OneOf, miss}
use denote.Enum.Declared.{tag_of}
use Rattle.records.specs.contracts.Node.{the_type}
use Rattle.rules.specs.Words.{Direction}
use Rattle.rules.specs.Image as rules
use Rattle.rules.specs.Image.{missing, node_of, is_statement}
use Rattle.rules.specs.Tree.{nothing, list}
use Rattle.rules.specs.Machine.{Env, done, step, exec}
use Rattle.records.specs.Fits.{Child, fits, next_statement_lem}
use Rattle.records.specs.Reading.{stmts_reading}
use Rattle.records.specs.Decode.{Decoded, lvalue_at, with_target, decoded_by, decoded_at}
use Rattle.records.specs.Cases.{Targeted, Means}
use Rattle.records.specs.Understood.{fit_at}
use Rattle.records.specs.declared.LValue.{LValue}
use Rattle.records.specs.declared.refusal.Refusal.{Refusal}
use Rattle.records.specs.declared.Node as case
use Rattle.records.specs.declared.Node.TheVariants.{Constant, Value, Size, Binary, Not, Argument}
use Rattle.expressions.specs.Relations.{Run, Program, bare, Readable, Indexed, Does}
use Rattle.expressions.specs.Meaning as meaning
use Rattle.expressions.specs.Meaning.{program-few, program-fit, program-means, program-refers, program-not_refused, program-missing, named-indexed}
use Rattle.expressions.specs.Commands.{updating, exchanging, exchanging_if}
use Rattle.expressions.specs.Laws.{step-refused}
use Rattle.executors.specs.World.{Leads, Code, Statement, Chain, Opened, World}
use Rattle.executors.specs.Ways.{performing, stmt_at, stmts_at, running, performed, Owes}
use Rattle.executors.specs.Doing.{step-leads, leads_on}
use Rattle.executors.specs.declared.Rest.{Rest}
use Rattle.executors.specs.declared.Rest.TheVariants.{Finished}

-- ---- cases

-- The cases of statements: all but those of expressions and the argument.
unfoldable pub IsStatement : case.Node → Type 0
IsStatement (Constant k) = ⊥
IsStatement (Value l) = ⊥
IsStatement (Size x) = ⊥
IsStatement (Binary o a b) = ⊥
IsStatement (Not a) = ⊥
IsStatement (Argument l m) = ⊥
IsStatement _ = Unit

-- The tags of the other cases.
abbrev pub no_statement : List ℕ
no_statement = 9 ∷ 10 ∷ 11 ∷ 12 ∷ 13 ∷ 14 ∷ []

pub not_statement : (x : case.Node) → IsStatement x → OneOf no_statement (tag_of the_type x) → ⊥
unfolding IsStatement
not_statement (Constant k) i o = i
not_statement (Value l) i o = i
not_statement (Size x) i o = i
not_statement (Binary b l r) i o = i
not_statement (Not a) i o = i
not_statement (Argument l m) i o = i
not_statement x i o = miss no_statement (tag_of the_type x) tt o

abbrev DecodesStatement : Decoded → Type 0
DecodesStatement (Ok x) = IsStatement x
DecodesStatement (Err r) = Unit

with_target_lem : (t : Option LValue) (n : ℕ) (made : LValue → Decoded) → ((l : LValue) → DecodesStatement (made l)) → DecodesStatement (with_target t n made)
with_target_lem (Some l) n made go = go l
with_target_lem None n made go = tt

decodes : (s : List ℕ) (n : ℕ) (r : rules.Node) → is_statement r.kind ≡ true → DecodesStatement (decoded_by s n r)
unfolding decoded_by IsStatement
decodes s n r i =
    let kinds = and_parts (leb 1 r.kind) _ i in
    cond_both (eqb r.kind 1) _ _ DecodesStatement (λ e. tt)
    (λ n₁. cond_both (eqb r.kind 2) _ _ DecodesStatement (λ e. with_target_lem (lvalue_at s r.a) n _ (λ l. tt))
    (λ n₂. cond_both (eqb r.kind 3) _ _ DecodesStatement (λ e. with_target_lem (lvalue_at s r.a) n _ (λ l. with_target_lem (lvalue_at s r.b) n _ (λ m. tt)))
    (λ n₃. cond_both (eqb r.kind 4) _ _ DecodesStatement (λ e. with_target_lem (lvalue_at s r.b) n _ (λ l. with_target_lem (lvalue_at s r.c) n _ (λ m. tt)))
    (λ n₄. cond_both (eqb r.kind 5) _ _ DecodesStatement (λ e. tt)
    (λ n₅. cond_both (eqb r.kind 6) _ _ DecodesStatement (λ e. tt)
    (λ n₆. cond_both (eqb r.kind 7) _ _ DecodesStatement (λ e. tt)
    (λ n₇. cond_both (eqb r.kind 8) _ _ DecodesStatement (λ e. tt)
    (λ n₈. cond_both (eqb r.kind 9) _ _ DecodesStatement (λ e. tt)
    (λ n₉. absurd (omega (arith, leb-true, eqb-false)))))))))))

-- ---- what it refers to

module _ {nodes : List ℕ} (code : Code nodes) where
  -- A program of these nodes alone.
  alone : Program code.header (bare nodes) nodes [] []
  alone = record { nodes_are = refl; variables-are = refl; constants-are = refl; long = code.long; few = code.few; fit = code.fit }

  pub target_indexed : {n : ℕ} (l : LValue) → Targeted code.header (bare nodes) n l → Indexed nodes l
  target_indexed l t = named-indexed code.header (bare nodes) alone l t.1

  module _ {n : ℕ} where
    pub child_statement : {m : ℕ} → Child code.header nodes n is_statement m → Statement nodes m
    child_statement x = record { code = code; inside = x.inside; classed = x.classed }

    pub child_chain : {m : ℕ} → (m ≡ missing) ⊎ Child code.header nodes n is_statement m → Chain nodes m
    child_chain x ne = ⊎_elim (λ e. absurd (ne e)) child_statement x

    pub chain_behind : {m : ℕ} → n < code.header.nodes → (m ≡ missing) ⊎ Child code.header nodes n is_statement m → n < m
    chain_behind l = ⊎_elim (λ e. omega (arith, e, code.few)) (λ x. x.behind)

    pub child_readable : {m : ℕ} (class : ℕ → Bool) → Child code.header nodes n class m → Readable class nodes m
    child_readable {m} class = meaning.child_readable code.header (bare nodes) alone n class m

module _ {nodes : List ℕ} {n : ℕ} (st : Statement nodes n) where
  pub statement_case_lem : (x : case.Node) → decoded_at nodes n ≡ Ok x → IsStatement x
  statement_case_lem x e = rw e at (decodes nodes n (node_of nodes n) st.classed)

  pub opened_at : (x : case.Node) → decoded_at nodes n ≡ Ok x → Opened nodes n x
  opened_at x e = record { code = st.code; inside = st.inside; refers = program-refers st.code.header (bare nodes) (alone st.code) n st.inside x e }

  pub never_refused : (r : Refusal) → decoded_at nodes n ≡ Err r → ⊥
  never_refused = program-not_refused st.code.header (bare nodes) (alone st.code) n st.inside

  next-or_none : ((node_of nodes n).next ≡ missing) ⊎ Child st.code.header nodes n is_statement (node_of nodes n).next
  next-or_none = next_statement_lem st.code.header nodes n (node_of nodes n) (fits st.code.header nodes n (node_of nodes n) (st.code.fit n st.inside)) st.classed

  pub next-behind : n < (node_of nodes n).next
  next-behind = chain_behind st.code st.inside next-or_none

  pub next-chain : Chain nodes (node_of nodes n).next
  next-chain = child_chain st.code next-or_none

-- ---- what it means

module _ {nodes procedures variables constants : List ℕ} (w : World nodes procedures variables constants) where
  few_nodes : w.h.nodes ≤ missing
  few_nodes = program-few w.h w.s w.program

  module _ {n : ℕ} (st : Statement nodes n) where
    within_nodes : n < w.h.nodes
    within_nodes = omega (arith, st.inside, st.code.long, w.program.long)

    pub means_at : (x : case.Node) → decoded_at nodes n ≡ Ok x → Means w.h w.s n x
    means_at = program-means w.h w.s w.program n within_nodes

    pub stmts_at_lem : stmts_at w n ≡ list (stmt_at w n) (stmts_at w (node_of nodes n).next)
    stmts_at_lem =
        stmts_reading w.h w.s few_nodes n within_nodes (fit_at w.h w.s few_nodes (program-fit w.h w.s w.program) n within_nodes)
        (ap (λ y. is_statement (node_of y n).kind) w.program.nodes_are ∙ st.classed)
        ∙ ap (λ y. list (stmt_at w n) (stmts_at w (node_of y n).next)) w.program.nodes_are

  pub stmts_none : stmts_at w missing ≡ nothing
  stmts_none = ap (λ r. r.as_stmts) (program-missing w.h w.s w.program)

  -- A statement takes its step, and does the rest.
  pub steps : (p : ℕ) (d : Direction) (ρ : Env) (n : ℕ) (x : case.Node) → IsStatement x → Means w.h w.s n x
      → running w p d ρ (stmt_at w n) ≡ step n (performed w p d ρ (stmt_at w n))
  unfolding IsStatement exec performing updating exchanging exchanging_if
  steps p d ρ n (Constant k) i m = absurd i
  steps p d ρ n (Value l) i m = absurd i
  steps p d ρ n (Size x) i m = absurd i
  steps p d ρ n (Binary o a b) i m = absurd i
  steps p d ρ n (Not a) i m = absurd i
  steps p d ρ n (Argument l k) i m = absurd i
  steps p d ρ n _ i m = rw m

  -- The same, whatever its case is.
  pub steps_at : (p : ℕ) (d : Direction) (ρ : Env) {n : ℕ} → Statement nodes n → running w p d ρ (stmt_at w n) ≡ step n (performed w p d ρ (stmt_at w n))
  steps_at p d ρ {n} st = go (decoded_at nodes n) refl
    where
      go : (x : Decoded) → decoded_at nodes n ≡ x → running w p d ρ (stmt_at w n) ≡ step n (performed w p d ρ (stmt_at w n))
      go (Ok x) e = steps p d ρ n x (statement_case_lem st x e) (means_at st x e)
      go (Err r) e = absurd (never_refused st r e)

  module _ (p : ℕ) (d : Direction) (ρ : Env) {n : ℕ} (st : Statement nodes n) (cells trace : List ℕ) (run : Run) (trace' : List ℕ) (run' : Run)
      (begun : Does (step n done) cells trace run cells trace' run') where
    pub begin-refused : (run'.number ≡ 0 → ⊥) → Does (running w p d ρ (stmt_at w n)) cells trace run cells trace' run'
    begin-refused ne c h = rw (steps_at p d ρ st) (step-refused n (performed w p d ρ (stmt_at w n)) begun ne c h)

    begin-leads : run'.number ≡ 0 → Leads (running w p d ρ (stmt_at w n)) cells trace run (performed w p d ρ (stmt_at w n)) cells trace' run'
    begin-leads z c h = rw (steps_at p d ρ st) (step-leads n (performed w p d ρ (stmt_at w n)) begun z c h)

    -- What is owed of the rest is owed of the whole.
    pub begin-on : run'.number ≡ 0 → (cells'' trace'' : List ℕ) (steps entries : ℕ) (r : Result Rest Refusal)
        → Owes w p n d ρ (performed w p d ρ (stmt_at w n)) cells trace' run' cells'' trace'' steps entries r
        → Owes w p n d ρ (running w p d ρ (stmt_at w n)) cells trace run cells'' trace'' steps entries r
    begin-on z cells'' trace'' steps entries (Err k) o = λ c h. let x = begin-leads z c h in rw x.same (o x.to x.holds)
    begin-on z cells'' trace'' steps entries (Ok Finished) o = λ c h. let x = begin-leads z c h in rw x.same (o x.to x.holds)
    begin-on z cells'' trace'' steps entries (Ok _) o = (o.0, leads_on (begin-leads z) o.1)
