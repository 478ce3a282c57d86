-- The variables of an expression, by the case of its node.
use Rattle.std.specs.Prelude.{ℕ, ◌≡◌, refl, List, [], ◌∷◌, ◌++◌, Bool, true, false, cond, Ok, Err}
use Rattle.std.proofs.Common.{sym, ap, ◌∙◌}
use Rattle.std.proofs.lemmas.Bool.{false≢true}
use Rattle.rules.specs.Image.{Header, Parts, node_of, variable_of, is_constant, is_expression}
use Rattle.rules.specs.Tree as tree
use Rattle.rules.specs.Tree.{reading_at, variables, index}
use Rattle.records.specs.Decode.{Decoded, decoded_at}
use Rattle.records.specs.LValues.{node_of_lvalue, root_of}
use Rattle.records.specs.Cases.{place_of, value_of}
use Rattle.records.specs.declared.LValue.{LValue}
use Rattle.records.specs.declared.LValue.TheVariants.{Variable, Element, Unsafe}
use Rattle.records.specs.declared.Node.TheVariants.{Empty, Update, Swap, ConditionalSwap, If, For, Call, Uncall, Block, Constant, Value, Size, Binary, Not, Argument}
use Rattle.names.specs.Class.{own-node}
use Rattle.names.specs.Sound.{never_refused, Standing, Known, means, refers, expression-classed}
use Rattle.names.specs.Chains.{Naming, KnownNaming}

one_name : (b : Bool) (n x v : ℕ) → variables (cond b (tree.constant n x v) (tree.variable n x)) ≡ x ∷ []
unfolding variables
one_name true n x v = refl
one_name false n x v = refl

value_names : (h : Header) (s : Parts) (l : LValue) → variables (value_of h s l) ≡ root_of l ∷ index (place_of h s l)
unfolding variables index
value_names h s (Variable n x) = one_name (is_constant (variable_of s.variables x)) n x _
value_names h s (Element n x i) = refl
value_names h s (Unsafe n x i) = refl

module _ {nodes : List ℕ} {h : Header} {s : Parts} {n : ℕ} (st : Standing is_expression nodes h s n) where
  -- A number and a size name nothing.
  pub names_none : (d : Decoded) → d ≡ decoded_at nodes n → ((l : LValue) → d ≡ Ok (Value l) → ⊥) → ((o a b : ℕ) → d ≡ Ok (Binary o a b) → ⊥) → ((a : ℕ) → d ≡ Ok (Not a) → ⊥)
      → variables (reading_at h s n).as_expr ≡ []
  unfolding variables
  names_none (Ok (Constant k)) e nv nb nn = rw (means st (sym e))
  names_none (Ok (Size x)) e nv nb nn = rw (means st (sym e))
  names_none (Ok (Value l)) e nv nb nn = absurd (nv l refl)
  names_none (Ok (Binary o a b)) e nv nb nn = absurd (nb o a b refl)
  names_none (Ok (Not a)) e nv nb nn = absurd (nn a refl)
  names_none (Ok Empty) e nv nb nn = absurd (false≢true (expression-classed (sym e) st))
  names_none (Ok (Update l v o)) e nv nb nn = absurd (false≢true (expression-classed (sym e) st))
  names_none (Ok (Swap l m)) e nv nb nn = absurd (false≢true (expression-classed (sym e) st))
  names_none (Ok (ConditionalSwap l m c)) e nv nb nn = absurd (false≢true (expression-classed (sym e) st))
  names_none (Ok (If c y z)) e nv nb nn = absurd (false≢true (expression-classed (sym e) st))
  names_none (Ok (For x a b c)) e nv nb nn = absurd (false≢true (expression-classed (sym e) st))
  names_none (Ok (Call p a)) e nv nb nn = absurd (false≢true (expression-classed (sym e) st))
  names_none (Ok (Uncall p a)) e nv nb nn = absurd (false≢true (expression-classed (sym e) st))
  names_none (Ok (Block x c a)) e nv nb nn = absurd (false≢true (expression-classed (sym e) st))
  names_none (Ok (Argument l m)) e nv nb nn = absurd (false≢true (expression-classed (sym e) st))
  names_none (Err r) e nv nb nn = absurd (never_refused st (sym e))

  -- A value names its variable, and what its index names.
  pub names_value : {l : LValue} → decoded_at nodes n ≡ Ok (Value l) → variables (reading_at h s n).as_expr ≡ root_of l ∷ index (place_of h s l)
  names_value {l} d = ap variables (means st d) ∙ value_names h s l

  pub value_naming : {l : LValue} → decoded_at nodes n ≡ Ok (Value l) → Naming nodes h s l
  value_naming d = record { sound = st.sound; own = st.own; names = refers st d }

  pub names_binary : {o a b : ℕ} → decoded_at nodes n ≡ Ok (Binary o a b)
      → variables (reading_at h s n).as_expr ≡ variables (reading_at h s a).as_expr ++ variables (reading_at h s b).as_expr
  unfolding variables
  names_binary d = rw (means st d)

  pub names_not : {a : ℕ} → decoded_at nodes n ≡ Ok (Not a) → variables (reading_at h s n).as_expr ≡ variables (reading_at h s a).as_expr
  unfolding variables
  names_not d = rw (means st d)

module _ {nodes : List ℕ} {n : ℕ} (k : Known is_expression nodes n) {l : LValue} (d : decoded_at nodes n ≡ Ok (Value l)) where
  pub known_value : KnownNaming nodes l
  known_value = record { header = k.header; parts = k.parts; naming = value_naming k.standing d }

  -- Its node is the expression's own.
  pub own_value : node_of_lvalue l ≡ n
  own_value = own-node nodes n (node_of nodes n) k.standing.classed l d
