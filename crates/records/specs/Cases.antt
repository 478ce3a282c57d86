-- What each case of a decoded node means as a tree, and what its fields refer to.
use Rattle.std.specs.Prelude.{ℕ, ◌+◌, ◌≤◌, ◌<◌, ◌≡◌, refl, ◌∷◌, true, false, cond, ◌⊎◌, Ok, Err}
use Rattle.rules.specs.Words.{forward, inverse, update_of, binary_of, complement}
use Rattle.rules.specs.Image.{missing, Header, Parts, variable_of, is_constant, constant_of, is_statement, is_expression, is_lvalue}
use Rattle.rules.specs.Tree as tree
use Rattle.rules.specs.Tree.{reading_at, range, root}
use Rattle.records.specs.Fits.{Child}
pub use Rattle.records.specs.LValues.{node_of_lvalue}
use Rattle.records.specs.LValues.{root_of}
use Rattle.records.specs.declared.LValue.{LValue}
use Rattle.records.specs.declared.LValue.TheVariants.{Variable, Element, Unsafe}
use Rattle.records.specs.declared.Node.{Node}
use Rattle.records.specs.declared.Node.TheVariants.{Empty, Update, Swap, ConditionalSwap, If, For, Call, Uncall, Block, Constant, Value, Size, Binary, Not, Argument}
use Rattle.records.specs.Decode.{Decoded}

-- An L-value as a place of the tree, and as a value.
abbrev pub place_of : Header → Parts → LValue → tree.LValue
place_of h s (Variable n x) = tree.whole n x
place_of h s (Element n x i) = tree.entry n false x (reading_at h s i).as_expr
place_of h s (Unsafe n x i) = tree.entry n true x (reading_at h s i).as_expr

-- The tree's place has the L-value's variable as its root.
pub root-place : (h : Header) (s : Parts) (l : LValue) → root (place_of h s l) ≡ root_of l
unfolding root
root-place h s (Variable n x) = refl
root-place h s (Element n x i) = refl
root-place h s (Unsafe n x i) = refl

abbrev pub value_of : Header → Parts → LValue → tree.Expr
value_of h s (Variable n x) =
    cond (is_constant (variable_of s.variables x)) (tree.constant n x (constant_of s.constants (variable_of s.variables x).extra)) (tree.variable n x)
value_of h s (Element n x i) = tree.element n false x (reading_at h s i).as_expr
value_of h s (Unsafe n x i) = tree.element n true x (reading_at h s i).as_expr

-- What node n is read as, by its case.
abbrev pub Means : Header → Parts → ℕ → Node → Type 0
Means h s n Empty = (reading_at h s n).as_stmt ≡ tree.empty n
Means h s n (Update l v o) = (reading_at h s n).as_stmt ≡ tree.update n (update_of o) (place_of h s l) (reading_at h s v).as_expr
Means h s n (Swap l m) = (reading_at h s n).as_stmt ≡ tree.swap n (place_of h s l) (place_of h s m)
Means h s n (ConditionalSwap l m e) = (reading_at h s n).as_stmt ≡ tree.conditional_swap n (reading_at h s e).as_expr (place_of h s l) (place_of h s m)
Means h s n (If e y z) = (reading_at h s n).as_stmt ≡ tree.branch n (reading_at h s e).as_expr (reading_at h s y).as_stmt (reading_at h s z).as_stmt
Means h s n (For x a b c) = (reading_at h s n).as_stmt ≡ tree.loop n x (reading_at h s a).as_expr (reading_at h s b).as_expr (reading_at h s c).as_stmt
Means h s n (Call p a) = (reading_at h s n).as_stmt ≡ tree.call n forward p (reading_at h s a).as_arguments
Means h s n (Uncall p a) = (reading_at h s n).as_stmt ≡ tree.call n inverse p (reading_at h s a).as_arguments
Means h s n (Block x c a) = (reading_at h s n).as_stmt ≡ tree.block n (range x c) (reading_at h s a).as_stmts
Means h s n (Constant k) = (reading_at h s n).as_expr ≡ tree.number n (constant_of s.constants k)
Means h s n (Value l) = (reading_at h s n).as_expr ≡ value_of h s l
Means h s n (Size x) = (reading_at h s n).as_expr ≡ tree.size n x
Means h s n (Binary o a b) = (reading_at h s n).as_expr ≡ tree.binary n (binary_of o) (reading_at h s a).as_expr (reading_at h s b).as_expr
Means h s n (Not a) = (reading_at h s n).as_expr ≡ tree.unary n complement (reading_at h s a).as_expr
Means h s n (Argument l m) = (reading_at h s n).as_arguments ≡ place_of h s l ∷ (reading_at h s m).as_arguments

-- A variable of the image; an L-value's variable, and its index behind it.
abbrev pub Named : Header → Parts → LValue → Type 0
Named h s (Variable n x) = x < h.variables
Named h s (Element n x i) = (x < h.variables) × Child h s.nodes n is_expression i
Named h s (Unsafe n x i) = (x < h.variables) × Child h s.nodes n is_expression i

-- A target of node n.
abbrev pub Targeted : Header → Parts → ℕ → LValue → Type 0
Targeted h s n l = Child h s.nodes n is_lvalue (node_of_lvalue l) × Named h s l

-- What the fields of node n refer to, by its case.
abbrev pub Refers : Header → Parts → ℕ → Node → Type 0
Refers h s n Empty = Unit {0}
Refers h s n (Update l v o) = Targeted h s n l × Child h s.nodes n is_expression v
Refers h s n (Swap l m) = Targeted h s n l × Targeted h s n m
Refers h s n (ConditionalSwap l m e) = Child h s.nodes n is_expression e × (Targeted h s n l × Targeted h s n m)
Refers h s n (If e y z) = Child h s.nodes n is_expression e × (Child h s.nodes n is_statement y × Child h s.nodes n is_statement z)
Refers h s n (For x a b c) =
    (x < h.variables) × (Child h s.nodes n is_expression a × (Child h s.nodes n is_expression b × Child h s.nodes n is_statement c))
Refers h s n (Call p a) = (p < h.procedures) × ((a ≡ missing) ⊎ Child h s.nodes n is_lvalue a)
Refers h s n (Uncall p a) = (p < h.procedures) × ((a ≡ missing) ⊎ Child h s.nodes n is_lvalue a)
Refers h s n (Block x c a) = (x + c ≤ h.variables) × ((a ≡ missing) ⊎ Child h s.nodes n is_statement a)
Refers h s n (Constant k) = k < h.constants
Refers h s n (Value l) = Named h s l
Refers h s n (Size x) = x < h.variables
Refers h s n (Binary o a b) = Child h s.nodes n is_expression a × Child h s.nodes n is_expression b
Refers h s n (Not a) = Child h s.nodes n is_expression a
Refers h s n (Argument l m) = Named h s l × ((m ≡ missing) ⊎ Child h s.nodes n is_lvalue m)

-- A decoded node says what it means and what it refers to; it is never refused.
abbrev pub Understood : Header → Parts → ℕ → Decoded → Type 0
Understood h s n (Ok x) = Means h s n x × Refers h s n x
Understood h s n (Err r) = ⊥
