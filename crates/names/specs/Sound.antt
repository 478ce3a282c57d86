-- What an accepted form gives the walk: a node stands in it, and so does what the node refers to.
use Rattle.std.specs.Prelude.{ℕ, ◌+◌, ◌≤◌, ◌<◌, ◌≡◌, List, Bool, true, ◌⊎◌, Ok, Err}
use Rattle.std.proofs.Common.{subst, arith}
use Rattle.rules.specs.Image.{missing, Header, Parts, procedure_of, node_of, is_statement, is_expression, is_lvalue}
use Rattle.rules.specs.Form.{record_fits}
use Rattle.rules.specs.Tree as tree
use Rattle.rules.specs.Tree.{reading_at}
use Rattle.records.specs.Fits.{Child}
use Rattle.records.specs.Decode.{decoded_at}
use Rattle.records.specs.Cases.{Means, Refers, Understood}
use Rattle.records.specs.Understood.{understood_at}
use Rattle.names.specs.Class.{Classed, statement_case, expression_case, statement_case_lem, expression_case_lem}
use Rattle.records.specs.declared.refusal.Refusal.{Refusal}
use Rattle.records.specs.declared.Node.{Node}

pub record Sound (h : Header) (s : Parts) : Type 0 where
  pub few : h.nodes ≤ 4096
  pub names : h.variables ≤ 1024
  pub fit : (n : ℕ) → n < h.nodes → record_fits h s.nodes n (node_of s.nodes n) ≡ true
  pub ranges : (p : ℕ) → p < h.procedures → (procedure_of s.procedures p).first + (procedure_of s.procedures p).count ≤ h.variables
  pub parameters : (p : ℕ) → p < h.procedures → (procedure_of s.procedures p).parameters ≤ (procedure_of s.procedures p).count

-- Node n of the nodes' part stands in a sound image, and is of the class.
pub record Standing (class : ℕ → Bool) (nodes : List ℕ) (h : Header) (s : Parts) (n : ℕ) : Type 0 where
  pub sound : Sound h s
  pub own : s.nodes ≡ nodes
  pub inside : n < h.nodes
  pub classed : class (node_of nodes n).kind ≡ true

-- There is a sound image in which it does.
pub record Known (class : ℕ → Bool) (nodes : List ℕ) (n : ℕ) : Type 0 where
  pub header : Header
  pub parts : Parts
  pub standing : Standing class nodes header parts n

module _ {class : ℕ → Bool} {nodes : List ℕ} {h : Header} {s : Parts} {n : ℕ} (st : Standing class nodes h s n) where
  small : h.nodes ≤ missing
  small = let f = st.sound.few in omega arith

  pub understood : Understood h s n (decoded_at nodes n)
  understood = subst (λ (l : List ℕ). Understood h s n (decoded_at l n)) st.own (understood_at h s small st.sound.fit n st.inside)

  module _ {x : Node} (d : decoded_at nodes n ≡ Ok x) where
    pub means : Means h s n x
    means = (rw d at understood).0

    pub refers : Refers h s n x
    refers = (rw d at understood).1

  pub never_refused : {r : Refusal} → decoded_at nodes n ≡ Err r → ⊥
  never_refused d = rw d at understood

  pub name_small : {x : ℕ} → x < h.variables → x < 1024
  name_small l = let f = st.sound.names in omega arith

  -- What it refers to stands too.
  pub standing_child : {class' : ℕ → Bool} {k m : ℕ} → Child h s.nodes k class' m → Standing class' nodes h s m
  standing_child {class'} {k} {m} c = record { sound = st.sound; own = st.own; inside = c.inside; classed = subst (λ (l : List ℕ). class' (node_of l m).kind ≡ true) st.own c.classed }

module _ {class : ℕ → Bool} {nodes : List ℕ} {n : ℕ} (k : Known class nodes n) {x : Node} (d : decoded_at nodes n ≡ Ok x)
    {class' : ℕ → Bool} {m : ℕ} (which : (h : Header) (s : Parts) → Refers h s n x → Child h s.nodes n class' m) where
  chosen_child : Child k.header k.parts.nodes n class' m
  chosen_child = which k.header k.parts (refers k.standing d)

  -- A reference of a known node is known, and goes to a larger number.
  pub known_child : Known class' nodes m
  known_child = record { header = k.header; parts = k.parts; standing = standing_child k.standing chosen_child }

  pub behind : (n < m) × (m < 4096)
  behind = let f = k.standing.sound.few in let c = chosen_child in (c.behind, omega arith)

-- Its case is of its class.
module _ {nodes : List ℕ} {h : Header} {s : Parts} {n : ℕ} {x : Node} (d : decoded_at nodes n ≡ Ok x) where
  pub expression-classed : Standing is_expression nodes h s n → expression_case x ≡ true
  expression-classed st = Classed.is (rw d at (expression_case_lem nodes n (node_of nodes n) st.classed))

  pub statement-classed : Standing is_statement nodes h s n → statement_case x ≡ true
  statement-classed st = Classed.is (rw d at (statement_case_lem nodes n (node_of nodes n) st.classed))

-- A chain from node n on: it is missing, or its first node stands.
pub record Chain (class : ℕ → Bool) (nodes : List ℕ) (h : Header) (s : Parts) (n : ℕ) : Type 0 where
  pub sound : Sound h s
  pub own : s.nodes ≡ nodes
  pub here : (n ≡ missing) ⊎ Standing class nodes h s n

pub record KnownChain (class : ℕ → Bool) (nodes : List ℕ) (n : ℕ) : Type 0 where
  pub header : Header
  pub parts : Parts
  pub chain : Chain class nodes header parts n

-- What holds of a node's reading in every sound image that has these nodes.
abbrev pub AsExpression : List ℕ → ℕ → (Parts → tree.Expr → Type 0) → Type 0
AsExpression nodes n holds = (h : Header) (s : Parts) → Standing is_expression nodes h s n → holds s (reading_at h s n).as_expr

abbrev pub AsStatement : List ℕ → ℕ → (Parts → tree.Stmt → Type 0) → Type 0
AsStatement nodes n holds = (h : Header) (s : Parts) → Standing is_statement nodes h s n → holds s (reading_at h s n).as_stmt

abbrev pub AsStatements : List ℕ → ℕ → (Parts → tree.Stmt → Type 0) → Type 0
AsStatements nodes n holds = (h : Header) (s : Parts) → Chain is_statement nodes h s n → holds s (reading_at h s n).as_stmts

abbrev pub AsArguments : List ℕ → ℕ → (Parts → List tree.LValue → Type 0) → Type 0
AsArguments nodes n holds = (h : Header) (s : Parts) → Chain is_lvalue nodes h s n → holds s (reading_at h s n).as_arguments
