-- L-values, and chains of statements and arguments: what is read at a node, and what follows it.
use Rattle.std.specs.Prelude.{ℕ, ◌≤◌, ◌<◌, ◌≡◌, refl, List, [], ◌∷◌, ◌++◌, Bool, true, ◌⊎◌, Option, Some, None}
use Rattle.std.proofs.Common.{sym, ap, subst, ◌∙◌, inl, inr, ⊎_elim, arith}
use Rattle.rules.specs.Image.{missing, Header, Parts, node_of, is_statement, is_expression, is_lvalue}
use Rattle.rules.specs.Tree as tree
use Rattle.rules.specs.Tree.{reading_at, index, variables, roots, indices}
use Rattle.records.specs.Fits.{Child, next_statement_lem, next_lvalue_lem}
use Rattle.records.specs.Reading.{reading-missing, stmts_reading, arguments-reading}
use Rattle.records.specs.Decode.{lvalue_at}
use Rattle.records.specs.Cases.{Named, place_of, root-place}
use Rattle.records.specs.Understood.{Placed, Stands, fit_at, stands_at}
pub use Rattle.records.specs.LValues.{root_of, whole_of}
use Rattle.records.specs.LValues.{node_of_lvalue, index_of}
use Rattle.records.specs.declared.LValue.{LValue}
use Rattle.records.specs.declared.LValue.TheVariants.{Variable, Element, Unsafe}
use Rattle.names.specs.Sound.{Sound, Standing, Known, Chain, KnownChain, standing_child}

-- ---- L-values

-- An L-value of a sound image that has these nodes.
pub record Naming (nodes : List ℕ) (h : Header) (s : Parts) (l : LValue) : Type 0 where
  pub sound : Sound h s
  pub own : s.nodes ≡ nodes
  pub names : Named h s l

pub record KnownNaming (nodes : List ℕ) (l : LValue) : Type 0 where
  pub header : Header
  pub parts : Parts
  pub naming : Naming nodes header parts l

abbrev pub AsPlace : List ℕ → LValue → (Parts → tree.LValue → Type 0) → Type 0
AsPlace nodes l holds = (h : Header) (s : Parts) → Naming nodes h s l → holds s (place_of h s l)

root-inside : (h : Header) (s : Parts) (l : LValue) → Named h s l → root_of l < h.variables
root-inside h s (Variable n x) d = d
root-inside h s (Element n x i) d = d.0
root-inside h s (Unsafe n x i) d = d.0

module _ {nodes : List ℕ} {h : Header} {s : Parts} where
  pub root-small : {l : LValue} → Naming nodes h s l → root_of l < 1024
  root-small {l} g = let f = g.sound.names in let k = root-inside h s l g.names in omega arith

  -- The index of an L-value stands.
  pub standing_index : {l : LValue} {k m : ℕ} → Naming nodes h s l → Child h s.nodes k is_expression m → Standing is_expression nodes h s m
  standing_index {l} {k} {m} g c = record {
    sound = g.sound;
    own = g.own;
    inside = c.inside;
    classed = subst (λ (a : List ℕ). is_expression (node_of a m).kind ≡ true) g.own c.classed;
  }

-- A name by itself has no index, and the index of an element is an expression.
module _ (nodes : List ℕ) (h : Header) (s : Parts) where
  pub index_none : (l : LValue) → index_of l ≡ None → index (place_of h s l) ≡ []
  unfolding index
  index_none (Variable n x) e = refl
  index_none (Element n x i) e = absurd cc
  index_none (Unsafe n x i) e = absurd cc

  pub index_some : (l : LValue) {i : ℕ} → index_of l ≡ Some i → index (place_of h s l) ≡ variables (reading_at h s i).as_expr
  unfolding index
  index_some (Variable n x) e = absurd cc
  index_some (Element n x j) {i} e = let k : j ≡ i = cc in rw k
  index_some (Unsafe n x j) {i} e = let k : j ≡ i = cc in rw k

  pub index_stands : (l : LValue) {i : ℕ} → Naming nodes h s l → index_of l ≡ Some i → Standing is_expression nodes h s i
  index_stands (Variable n x) g e = absurd cc
  index_stands (Element n x j) {i} g e = let k : j ≡ i = cc in rw k at (standing_index g g.names.1)
  index_stands (Unsafe n x j) {i} g e = let k : j ≡ i = cc in rw k at (standing_index g g.names.1)

  pub index_behind : (l : LValue) {i : ℕ} → Naming nodes h s l → index_of l ≡ Some i → (node_of_lvalue l < i) × (i < 4096)
  index_behind (Variable n x) g e = absurd cc
  index_behind (Element n x j) {i} g e = let k : j ≡ i = cc in let f = g.sound.few in let c = g.names.1 in let b = c.behind in let d = c.inside in (omega arith, omega arith)
  index_behind (Unsafe n x j) {i} g e = let k : j ≡ i = cc in let f = g.sound.few in let c = g.names.1 in let b = c.behind in let d = c.inside in (omega arith, omega arith)

module _ {nodes : List ℕ} {l : LValue} {i : ℕ} (k : KnownNaming nodes l) (e : index_of l ≡ Some i) where
  pub known_index : Known is_expression nodes i
  known_index = record { header = k.header; parts = k.parts; standing = index_stands nodes k.header k.parts l k.naming e }

  pub known_behind : (node_of_lvalue l < i) × (i < 4096)
  known_behind = index_behind nodes k.header k.parts l k.naming e

-- ---- chains

module _ {class : ℕ → Bool} {nodes : List ℕ} {h : Header} {s : Parts} {n : ℕ} where
  pub chain_standing : Chain class nodes h s n → (n ≡ missing → ⊥) → Standing class nodes h s n
  chain_standing k ne = ⊎_elim (λ e. absurd (ne e)) (λ st. st) k.here

  chained : {m : ℕ} → Standing class nodes h s n → (m ≡ missing) ⊎ Child h s.nodes n class m → Chain class nodes h s m
  chained st o = record { sound = st.sound; own = st.own; here = ⊎_elim (λ e. inl e) (λ c. inr (standing_child st c)) o }

  none : Chain class nodes h s n → n ≡ missing → reading_at h s n ≡ tree.no_reading
  none k e = let f = k.sound.few in ap (reading_at h s) e ∙ reading-missing h s (omega arith)

  pub no_arguments : Chain class nodes h s n → n ≡ missing → (reading_at h s n).as_arguments ≡ []
  no_arguments k e = ap (λ (r : tree.Reading). r.as_arguments) (none k e)

  pub no_statements : Chain class nodes h s n → n ≡ missing → (reading_at h s n).as_stmts ≡ tree.nothing
  no_statements k e = ap (λ (r : tree.Reading). r.as_stmts) (none k e)

module _ {nodes : List ℕ} {h : Header} {s : Parts} {n : ℕ} (st : Standing is_lvalue nodes h s n) where
  few_arguments : h.nodes ≤ missing
  few_arguments = let f = st.sound.few in omega arith

  classed_argument : is_lvalue (node_of s.nodes n).kind ≡ true
  classed_argument = subst (λ (a : List ℕ). is_lvalue (node_of a n).kind ≡ true) (sym st.own) st.classed

  argument_stands : Stands h s n (lvalue_at nodes n)
  argument_stands = subst (λ (a : List ℕ). Stands h s n (lvalue_at a n)) st.own (stands_at h s few_arguments st.sound.fit n st.inside classed_argument)

  pub no_other : lvalue_at nodes n ≡ None → ⊥
  no_other d = rw d at argument_stands

  argument_next_own : ((node_of s.nodes n).next ≡ missing) ⊎ Child h s.nodes n is_lvalue (node_of s.nodes n).next
  argument_next_own = next_lvalue_lem h s.nodes n (node_of s.nodes n) (fit_at h s few_arguments st.sound.fit n st.inside) classed_argument

  pub argument_next : ((node_of nodes n).next ≡ missing) ⊎ Child h s.nodes n is_lvalue (node_of nodes n).next
  argument_next =
      subst (λ (a : List ℕ). ((node_of a n).next ≡ missing) ⊎ Child h s.nodes n is_lvalue (node_of a n).next) st.own argument_next_own

  pub later_arguments : {m : ℕ} → m ≡ (node_of nodes n).next → Chain is_lvalue nodes h s m
  later_arguments e = chained st (rw e argument_next)

  pub some_argument : (reading_at h s n).as_arguments ≡ (reading_at h s n).as_lvalue ∷ (reading_at h s (node_of s.nodes n).next).as_arguments
  some_argument = arguments-reading h s few_arguments n st.inside (fit_at h s few_arguments st.sound.fit n st.inside) classed_argument

  module _ {l : LValue} (d : lvalue_at nodes n ≡ Some l) where
    placed : Placed h s n l
    placed = rw d at argument_stands

    pub argument_naming : Naming nodes h s l
    argument_naming = record { sound = st.sound; own = st.own; names = placed.names }

    pub first_argument_lem : {m : ℕ} → m ≡ (node_of nodes n).next → (reading_at h s n).as_arguments ≡ place_of h s l ∷ (reading_at h s m).as_arguments
    first_argument_lem e =
        some_argument
        ∙ ap (λ (a : tree.LValue). a ∷ (reading_at h s (node_of s.nodes n).next).as_arguments) placed.place
        ∙ ap (λ (a : List ℕ). place_of h s l ∷ (reading_at h s (node_of a n).next).as_arguments) st.own
        ∙ ap (λ (a : ℕ). place_of h s l ∷ (reading_at h s a).as_arguments) (sym e)

module _ {nodes : List ℕ} {h : Header} {s : Parts} {n : ℕ} (st : Standing is_statement nodes h s n) where
  few_statements : h.nodes ≤ missing
  few_statements = let f = st.sound.few in omega arith

  classed_statement : is_statement (node_of s.nodes n).kind ≡ true
  classed_statement = subst (λ (a : List ℕ). is_statement (node_of a n).kind ≡ true) (sym st.own) st.classed

  statement-next-own : ((node_of s.nodes n).next ≡ missing) ⊎ Child h s.nodes n is_statement (node_of s.nodes n).next
  statement-next-own = next_statement_lem h s.nodes n (node_of s.nodes n) (fit_at h s few_statements st.sound.fit n st.inside) classed_statement

  pub statement-next : ((node_of nodes n).next ≡ missing) ⊎ Child h s.nodes n is_statement (node_of nodes n).next
  statement-next =
      subst (λ (a : List ℕ). ((node_of a n).next ≡ missing) ⊎ Child h s.nodes n is_statement (node_of a n).next) st.own statement-next-own

  pub later_statements : {m : ℕ} → m ≡ (node_of nodes n).next → Chain is_statement nodes h s m
  later_statements e = chained st (rw e statement-next)

  pub first_statement_lem : {m : ℕ} → m ≡ (node_of nodes n).next → (reading_at h s n).as_stmts ≡ tree.list (reading_at h s n).as_stmt (reading_at h s m).as_stmts
  first_statement_lem {m} e =
      stmts_reading h s few_statements n st.inside (fit_at h s few_statements st.sound.fit n st.inside) classed_statement
      ∙ ap (λ (a : List ℕ). tree.list (reading_at h s n).as_stmt (reading_at h s (node_of a n).next).as_stmts) st.own
      ∙ ap (λ (a : ℕ). tree.list (reading_at h s n).as_stmt (reading_at h s a).as_stmts) (sym e)

-- ---- the same of what is known to stand

module _ {nodes : List ℕ} {n : ℕ} where
  pub known_argument : KnownChain is_lvalue nodes n → (n ≡ missing → ⊥) → {l : LValue} → lvalue_at nodes n ≡ Some l → KnownNaming nodes l
  known_argument k ne d = record { header = k.header; parts = k.parts; naming = argument_naming (chain_standing k.chain ne) d }

  pub known_arguments : KnownChain is_lvalue nodes n → (n ≡ missing → ⊥) → {m : ℕ} → m ≡ (node_of nodes n).next → KnownChain is_lvalue nodes m
  known_arguments k ne e = record { header = k.header; parts = k.parts; chain = later_arguments (chain_standing k.chain ne) e }

  pub known_statement : KnownChain is_statement nodes n → (n ≡ missing → ⊥) → Known is_statement nodes n
  known_statement k ne = record { header = k.header; parts = k.parts; standing = chain_standing k.chain ne }

  pub known_statements : KnownChain is_statement nodes n → (n ≡ missing → ⊥) → {m : ℕ} → m ≡ (node_of nodes n).next → KnownChain is_statement nodes m
  known_statements k ne e = record { header = k.header; parts = k.parts; chain = later_statements (chain_standing k.chain ne) e }

  ahead : {class : ℕ → Bool} {h : Header} {s : Parts} {m : ℕ} → Standing class nodes h s n → (m ≡ missing) ⊎ Child h s.nodes n class m → (n < m) × (m ≤ missing)
  ahead st o =
      let f = st.sound.few in let i = st.inside in
      ⊎_elim (λ e. (omega arith, omega arith)) (λ c. (c.behind, (let j = c.inside in omega arith))) o

  pub argument_ahead : KnownChain is_lvalue nodes n → (n ≡ missing → ⊥) → {m : ℕ} → m ≡ (node_of nodes n).next → (n < m) × (m ≤ missing)
  argument_ahead k ne e = let st = chain_standing k.chain ne in ahead st (rw e (argument_next st))

  pub statement-ahead : KnownChain is_statement nodes n → (n ≡ missing → ⊥) → {m : ℕ} → m ≡ (node_of nodes n).next → (n < m) × (m ≤ missing)
  statement-ahead k ne e = let st = chain_standing k.chain ne in ahead st (rw e (statement-next st))

-- ---- the first of a chain's arguments

-- It, and the node that the others begin at, in a sound image.
pub record Head (nodes : List ℕ) (h : Header) (s : Parts) (n : ℕ) (l : LValue) (m : ℕ) : Type 0 where
  pub naming : Naming nodes h s l
  pub rest : Chain is_lvalue nodes h s m
  pub is : (reading_at h s n).as_arguments ≡ place_of h s l ∷ (reading_at h s m).as_arguments

pub record Begins (nodes : List ℕ) (n : ℕ) (l : LValue) (m : ℕ) : Type 0 where
  pub known : KnownNaming nodes l
  pub rest : KnownChain is_lvalue nodes m
  pub ahead : (n < m) × (m ≤ missing)
  pub head : (h : Header) (s : Parts) → Chain is_lvalue nodes h s n → Head nodes h s n l m

pub record Ends (nodes : List ℕ) (n : ℕ) : Type 0 where
  pub none : (h : Header) (s : Parts) → Chain is_lvalue nodes h s n → (reading_at h s n).as_arguments ≡ []

abbrev pub FirstArgument : List ℕ → ℕ → Option (LValue × ℕ) → Type 0
FirstArgument nodes n (Some p) = Begins nodes n p.0 p.1
FirstArgument nodes n None = Ends nodes n

module _ {nodes : List ℕ} {n : ℕ} where
  pub ends : n ≡ missing → Ends nodes n
  ends e = record { none = λ h s k. no_arguments k e }

  pub begins : KnownChain is_lvalue nodes n → (n ≡ missing → ⊥) → {l : LValue} → lvalue_at nodes n ≡ Some l → {m : ℕ} → m ≡ (node_of nodes n).next → Begins nodes n l m
  begins k ne d e = record {
    known = known_argument k ne d;
    rest = known_arguments k ne e;
    ahead = argument_ahead k ne e;
    head = λ h s g.
        let st = chain_standing g ne in
        record { naming = argument_naming st d; rest = later_arguments st e; is = first_argument_lem st d e };
  }

module _ {nodes : List ℕ} {h : Header} {s : Parts} {n : ℕ} {l : LValue} {m : ℕ} (g : Head nodes h s n l m) where
  pub head_small : root_of l < 1024
  head_small = root-small g.naming

  pub head_roots : roots (reading_at h s n).as_arguments ≡ root_of l ∷ roots (reading_at h s m).as_arguments
  unfolding roots
  head_roots = rw (g.is, root-place h s l)

  pub head_indices : indices (reading_at h s n).as_arguments ≡ index (place_of h s l) ++ indices (reading_at h s m).as_arguments
  unfolding indices
  head_indices = rw g.is

module _ {nodes : List ℕ} {h : Header} {s : Parts} {n : ℕ} (g : Ends nodes n) (k : Chain is_lvalue nodes h s n) where
  pub end_roots : roots (reading_at h s n).as_arguments ≡ []
  unfolding roots
  end_roots = rw (g.none h s k)

  pub end_indices : indices (reading_at h s n).as_arguments ≡ []
  unfolding indices
  end_indices = rw (g.none h s k)
