-- The verdict, number 6, and the image read as a tree.
use Rattle.std.specs.Prelude.{ℕ, zero, suc, ◌-◌, List, [], ◌∷◌, ◌++◌, Bool, true, false, not, cond, ◌&&◌, ◌||◌, get_or, set, replicate, eqb, leb}
use Rattle.rules.specs.Words.{Direction, forward, inverse, Binary, binary_of, Update, update_of, Unary, complement}
use Rattle.rules.specs.Image.{missing, Header, Parts, procedure_of, variable_of, is_constant, Node, node_of, constant_of, is_statement}
use Rattle.rules.specs.Form.{Verdict, ◌then◌, lowest, class_of, expression, first_argument, first_statement}

-- ---- 6: "no tree"

-- "a node not referred to exactly once (procedure bodies count as references)"
abbrev pub is_reference : ℕ → Bool
is_reference class = leb expression class && leb class first_statement

abbrev pub reference : ℕ → ℕ → List ℕ
reference class v = cond (is_reference class) (v ∷ []) []

unfoldable pub references_of : Node → List ℕ
references_of r =
    reference (class_of r.kind 1) r.a
    ++ (reference (class_of r.kind 2) r.b
    ++ (reference (class_of r.kind 3) r.c
    ++ (reference (class_of r.kind 4) r.d ++ (r.next ∷ []))))

-- The references of the count nodes from n on, and the bodies of the count procedures from p on.
unfoldable pub node_references : List ℕ → ℕ → ℕ → List ℕ
node_references s n zero = []
node_references s n (suc count) = references_of (node_of s n) ++ node_references s (suc n) count

unfoldable pub bodies : List ℕ → ℕ → ℕ → List ℕ
bodies s p zero = []
bodies s p (suc count) = (procedure_of s p).body ∷ bodies s (suc p) count

-- How often n stands in a list, and whether it does.
unfoldable pub occurrences : ℕ → List ℕ → ℕ
occurrences n [] = 0
occurrences n (m ∷ ms) = cond (eqb n m) (suc (occurrences n ms)) (occurrences n ms)

unfoldable pub member : ℕ → List ℕ → Bool
member n [] = false
member n (m ∷ ms) = eqb n m || member n ms

unfoldable pub reference_refusal : Header → Parts → Verdict
reference_refusal h s = lowest 6 (λ n. eqb (occurrences n (bodies s.procedures 0 h.procedures ++ node_references s.nodes 0 h.nodes)) 1) 0 h.nodes

-- A number for each node, handed down in the order of the nodes: a child gets `child` of its field's class and its parent's number, next the same number.
unfoldable pub handed : (ℕ → ℕ → ℕ) → ℕ → ℕ → ℕ → List ℕ → List ℕ
handed child own class v marks = cond (is_reference class) (set marks v (child class own)) marks

unfoldable pub handed_on : (ℕ → ℕ → ℕ) → Node → ℕ → List ℕ → List ℕ
handed_on child r own marks =
    set
    (handed child own (class_of r.kind 4) r.d
    (handed child own (class_of r.kind 3) r.c
    (handed child own (class_of r.kind 2) r.b
    (handed child own (class_of r.kind 1) r.a marks))))
    r.next own

unfoldable pub handed_down : (ℕ → ℕ → ℕ) → List ℕ → ℕ → ℕ → List ℕ → List ℕ
handed_down child s n zero marks = marks
handed_down child s n (suc count) marks = handed_down child s (suc n) count (handed_on child (node_of s n) (get_or marks n 0) marks)

unfoldable pub marked : ℕ → List ℕ → List ℕ → List ℕ
marked v [] marks = marks
marked v (n ∷ ns) marks = marked v ns (set marks n v)

-- "a body has depth 1, a child one more, next the same"
unfoldable pub deeper : ℕ → ℕ → ℕ
deeper class own = suc own

unfoldable pub depths : Header → Parts → List ℕ
depths h s = handed_down deeper s.nodes 0 h.nodes (marked 1 (bodies s.procedures 0 h.procedures) (replicate h.nodes 0))

-- 1 for "a block's statement" or "an argument", else 0
unfoldable pub begins : ℕ → ℕ → ℕ
begins class own = cond (eqb class first_argument || eqb class first_statement) 1 0

unfoldable pub chained : Header → Parts → List ℕ
chained h s = handed_down begins s.nodes 0 h.nodes (replicate h.nodes 0)

-- "a body that is no statement, a depth over 32, or a next on a node that is neither a block's statement nor an argument"
unfoldable pub stands_in_tree : List ℕ → List ℕ → List ℕ → ℕ → Node → Bool
stands_in_tree bodyNodes deep chain n r =
    (not (member n bodyNodes) || is_statement r.kind) && (leb (get_or deep n 0) 32 && (eqb r.next missing || eqb (get_or chain n 0) 1))

unfoldable pub place_refusal : Header → Parts → Verdict
place_refusal h s = lowest 6 (λ n. stands_in_tree (bodies s.procedures 0 h.procedures) (depths h s) (chained h s) n (node_of s.nodes n)) 0 h.nodes

unfoldable pub tree_refusal : Header → Parts → Verdict
tree_refusal h s = reference_refusal h s then place_refusal h s

-- ---- the tree: each constructor carries its node's number

-- a constant number; a variable that is a constant, with its value; any other variable; an element (true: unsafe); a size; operators
pub data Expr : Type 0 where
  number : ℕ → ℕ → Expr
  constant : ℕ → ℕ → ℕ → Expr
  variable : ℕ → ℕ → Expr
  element : ℕ → Bool → ℕ → Expr → Expr
  size : ℕ → ℕ → Expr
  binary : ℕ → Binary → Expr → Expr → Expr
  unary : ℕ → Unary → Expr → Expr

-- "Kinds 21 to 23 are L-values."
pub data LValue : Type 0 where
  whole : ℕ → ℕ → LValue
  entry : ℕ → Bool → ℕ → Expr → LValue

-- A chain of statements is `nothing` or `list`; these two are no nodes.
pub data Stmt : Type 0 where
  empty : ℕ → Stmt
  update : ℕ → Update → LValue → Expr → Stmt
  swap : ℕ → LValue → LValue → Stmt
  conditional_swap : ℕ → Expr → LValue → LValue → Stmt
  branch : ℕ → Expr → Stmt → Stmt → Stmt
  loop : ℕ → ℕ → Expr → Expr → Stmt → Stmt
  call : ℕ → Direction → ℕ → List LValue → Stmt
  block : ℕ → List ℕ → Stmt → Stmt
  nothing : Stmt
  list : Stmt → Stmt → Stmt

-- What a node is read as, wherever it stands.
pub record Reading : Type 0 where
  pub as_expr : Expr
  pub as_lvalue : LValue
  pub as_stmt : Stmt
  pub as_stmts : Stmt
  pub as_arguments : List LValue

abbrev pub no_reading : Reading
no_reading = record { as_expr = number 0 0; as_lvalue = whole 0 0; as_stmt = nothing; as_stmts = nothing; as_arguments = [] }

-- The count names from x on.
unfoldable pub range : ℕ → ℕ → List ℕ
range x zero = []
range x (suc count) = x ∷ range (suc x) count

-- "20 constant number a; 21 variable a; 22 element of a at b; 23 unsafe element; 24 size of a; 25 binary, on a, b; 26 bitwise not of a"
unfoldable pub expr_of : Parts → ℕ → Node → (ℕ → Reading) → Expr
expr_of s n r at =
    cond (eqb r.kind 20) (number n (constant_of s.constants r.a))
    (cond (eqb r.kind 21) (cond (is_constant (variable_of s.variables r.a)) (constant n r.a (constant_of s.constants (variable_of s.variables r.a).extra)) (variable n r.a))
    (cond (eqb r.kind 22) (element n false r.a (at r.b).as_expr)
    (cond (eqb r.kind 23) (element n true r.a (at r.b).as_expr)
    (cond (eqb r.kind 24) (size n r.a)
    (cond (eqb r.kind 25) (binary n (binary_of r.operator) (at r.a).as_expr (at r.b).as_expr)
    (unary n complement (at r.a).as_expr))))))

unfoldable pub lvalue_of : ℕ → Node → (ℕ → Reading) → LValue
lvalue_of n r at = cond (eqb r.kind 21) (whole n r.a) (entry n (eqb r.kind 23) r.a (at r.b).as_expr)

-- "1 empty; 2 update, target a, value b; 3 swap a, b; 4 conditional swap, condition a, targets b, c; 5 if a then b else c;
-- 6 for, counter variable a, first bound b, second bound c, body d; 7 call and 8 uncall, procedure a, first argument b or missing;
-- 9 block, first declared variable a, how many b, first statement c or missing"
unfoldable pub stmt_of : ℕ → Node → (ℕ → Reading) → Stmt
stmt_of n r at =
    cond (eqb r.kind 1) (empty n)
    (cond (eqb r.kind 2) (update n (update_of r.operator) (at r.a).as_lvalue (at r.b).as_expr)
    (cond (eqb r.kind 3) (swap n (at r.a).as_lvalue (at r.b).as_lvalue)
    (cond (eqb r.kind 4) (conditional_swap n (at r.a).as_expr (at r.b).as_lvalue (at r.c).as_lvalue)
    (cond (eqb r.kind 5) (branch n (at r.a).as_expr (at r.b).as_stmt (at r.c).as_stmt)
    (cond (eqb r.kind 6) (loop n r.a (at r.b).as_expr (at r.c).as_expr (at r.d).as_stmt)
    (cond (eqb r.kind 7) (call n forward r.a (at r.b).as_arguments)
    (cond (eqb r.kind 8) (call n inverse r.a (at r.b).as_arguments)
    (block n (range r.a r.b) (at r.c).as_stmts))))))))

-- "Next chains a block's statements and a call's arguments."
unfoldable pub reading_of : Parts → ℕ → Node → (ℕ → Reading) → Reading
reading_of s n r at = record {
  as_expr = expr_of s n r at;
  as_lvalue = lvalue_of n r at;
  as_stmt = stmt_of n r at;
  as_stmts = list (stmt_of n r at) (at r.next).as_stmts;
  as_arguments = lvalue_of n r at ∷ (at r.next).as_arguments;
}

-- The readings of the count nodes from n on; what a node refers to stands behind it. A missing reference has no reading.
unfoldable pub readings : Parts → ℕ → ℕ → List Reading
readings s n zero = []
readings s n (suc count) = reading_of s n (node_of s.nodes n) (λ m. get_or (readings s (suc n) count) (m - suc n) no_reading) ∷ readings s (suc n) count

unfoldable pub reading_at : Header → Parts → ℕ → Reading
reading_at h s n = get_or (readings s 0 h.nodes) n no_reading

-- The body of procedure p.
unfoldable pub body_of : Header → Parts → ℕ → Stmt
body_of h s p = (reading_at h s (procedure_of s.procedures p).body).as_stmt

-- ---- what a tree names

-- "The variables of an expression are all it names except under size."
unfoldable pub variables : Expr → List ℕ
variables (number n v) = []
variables (constant n x v) = x ∷ []
variables (variable n x) = x ∷ []
variables (element n u x e) = x ∷ variables e
variables (size n x) = []
variables (binary n o a b) = variables a ++ variables b
variables (unary n o a) = variables a

-- The root of an L-value, and the variables of its index.
unfoldable pub root : LValue → ℕ
root (whole n x) = x
root (entry n u x e) = x

unfoldable pub index : LValue → List ℕ
index (whole n x) = []
index (entry n u x e) = variables e

unfoldable pub roots : List LValue → List ℕ
roots [] = []
roots (l ∷ ls) = root l ∷ roots ls

unfoldable pub indices : List LValue → List ℕ
indices [] = []
indices (l ∷ ls) = index l ++ indices ls

-- "Changed means root of a target or argument."
unfoldable pub changed : Stmt → List ℕ
changed (empty n) = []
changed (update n o l e) = root l ∷ []
changed (swap n l m) = root l ∷ root m ∷ []
changed (conditional_swap n e l m) = root l ∷ root m ∷ []
changed (branch n e s t) = changed s ++ changed t
changed (loop n x a b s) = changed s
changed (call n d p ls) = roots ls
changed (block n xs s) = changed s
changed nothing = []
changed (list s t) = changed s ++ changed t

-- "a block declares its range; a for declares its counter"
unfoldable pub declared : Stmt → List ℕ
declared (empty n) = []
declared (update n o l e) = []
declared (swap n l m) = []
declared (conditional_swap n e l m) = []
declared (branch n e s t) = declared s ++ declared t
declared (loop n x a b s) = x ∷ declared s
declared (call n d p ls) = []
declared (block n xs s) = xs ++ declared s
declared nothing = []
declared (list s t) = declared s ++ declared t
