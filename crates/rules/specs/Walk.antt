-- The verdict, numbers 7 to 13: "procedures are walked in order: children in field order, then the node's own rules by number, then next".
use Rattle.std.specs.Prelude.{ℕ, zero, suc, ◌+◌, ◌-◌, List, [], ◌∷◌, ◌++◌, Bool, true, false, not, ◌&&◌, ◌||◌, length, eqb, leb, ltb}
use Rattle.rules.specs.Words.{Binary}
use Rattle.rules.specs.Image.{Header, Parts, Procedure, procedure_of, Variable, variable_of, is_array, is_constant, is_counter, is_secret}
use Rattle.rules.specs.Form.{Verdict, accepted, given, ◌then◌, lowest}
use Rattle.rules.specs.Tree.{member, Expr, number, constant, variable, element, size, binary, unary, LValue, whole, entry, Stmt, empty, update, swap, conditional_swap, branch, loop, call, block, nothing, list, range, body_of, variables, root, index, roots, indices, changed, declared}

unfoldable pub every : (ℕ → Bool) → List ℕ → Bool
every p [] = true
every p (x ∷ xs) = p x && every p xs

-- Two lists have a name in common; a list has a name twice.
unfoldable pub share : List ℕ → List ℕ → Bool
share [] ys = false
share (x ∷ xs) ys = member x ys || share xs ys

unfoldable pub repeats : List ℕ → Bool
repeats [] = false
repeats (x ∷ xs) = member x xs || repeats xs

unfoldable pub same : Bool → Bool → Bool
same true b = b
same false b = not b

-- ---- types (000, Figure 2)

abbrev pub type_of : Parts → ℕ → Variable
type_of s x = variable_of s.variables x

-- "mixed operands are secret, numbers and sizes public"
unfoldable pub secret : Parts → Expr → Bool
secret s (number n v) = false
secret s (constant n x v) = false
secret s (variable n x) = is_secret (type_of s x)
secret s (element n u x e) = is_secret (type_of s x)
secret s (size n x) = false
secret s (binary n o a b) = secret s a || secret s b
secret s (unary n o a) = secret s a

abbrev pub secret_root : Parts → LValue → Bool
secret_root s l = is_secret (type_of s (root l))

-- An element is no array, a name is one if its variable is.
unfoldable pub passes_array : Parts → LValue → Bool
passes_array s (whole n x) = is_array (type_of s x)
passes_array s (entry n u x e) = false

-- ---- expressions and L-values; Γ holds the names in scope

-- 7: "variable outside its scope", then 9: "wrong kind of variable"
unfoldable pub named : List ℕ → ℕ → ℕ → Bool → Verdict
named Γ n x wrong = given 7 n (not (member x Γ)) then given 9 n wrong

-- 9: "an element of a non-array". 10: "secret index without unsafe, unsafe on a public array".
unfoldable pub element_refusal : Parts → List ℕ → ℕ → Bool → ℕ → Expr → Verdict
element_refusal s Γ n unsafe x e =
    named Γ n x (not (is_array (type_of s x))) then given 10 n ((secret s e && not unsafe) || (unsafe && not (is_secret (type_of s x))))

-- 13: "/ or % with a secret operand": an operator that is forbidden on secrets
-- 9: "an array named outside a call argument, size or element", "a size of a non-array"
unfoldable pub expr_refusal : (Binary → Bool) → Parts → List ℕ → Expr → Verdict
expr_refusal forbidden s Γ (number n v) = accepted
expr_refusal forbidden s Γ (constant n x v) = named Γ n x false
expr_refusal forbidden s Γ (variable n x) = named Γ n x (is_array (type_of s x))
expr_refusal forbidden s Γ (element n u x e) = expr_refusal forbidden s Γ e then element_refusal s Γ n u x e
expr_refusal forbidden s Γ (size n x) = named Γ n x (not (is_array (type_of s x)))
expr_refusal forbidden s Γ (binary n o a b) =
    expr_refusal forbidden s Γ a then (expr_refusal forbidden s Γ b then given 13 n (forbidden o && (secret s a || secret s b)))
expr_refusal forbidden s Γ (unary n o a) = expr_refusal forbidden s Γ a

-- 9: "a constant as target of update, swap or argument"
unfoldable pub target_refusal : (Binary → Bool) → Parts → List ℕ → LValue → Verdict
target_refusal forbidden s Γ (whole n x) = named Γ n x (is_array (type_of s x) || is_constant (type_of s x))
target_refusal forbidden s Γ (entry n u x e) = expr_refusal forbidden s Γ e then element_refusal s Γ n u x e

unfoldable pub argument_refusal : (Binary → Bool) → Parts → List ℕ → LValue → Verdict
argument_refusal forbidden s Γ (whole n x) = named Γ n x (is_constant (type_of s x))
argument_refusal forbidden s Γ (entry n u x e) = expr_refusal forbidden s Γ e then element_refusal s Γ n u x e

unfoldable pub arguments_refusal : (Binary → Bool) → Parts → List ℕ → List LValue → Verdict
arguments_refusal forbidden s Γ [] = accepted
arguments_refusal forbidden s Γ (l ∷ ls) = argument_refusal forbidden s Γ l then arguments_refusal forbidden s Γ ls

-- ---- statements; p is the procedure, D holds the names declared so far

-- 7: "declared twice", "declaring a parameter or another procedure's variable"
unfoldable pub declarable : Procedure → List ℕ → ℕ → Bool
declarable q D x = leb (q.first + q.parameters) x && (ltb x (q.first + q.count) && not (member x D))

-- 11: "the root of either swap target occurs in either index"
unfoldable pub swap_clash : LValue → LValue → Bool
swap_clash l m = share (root l ∷ root m ∷ []) (index l ++ index m)

-- 12: "Swap targets of different types are 12 too."
unfoldable pub same_type : Variable → Variable → Bool
same_type v w = eqb v.secrecy w.secrecy && eqb v.size w.size

-- 12: "secrecy, size, or scalar against array differs", from parameter y on
unfoldable pub arguments_fit : Parts → ℕ → List LValue → Bool
arguments_fit s y [] = true
arguments_fit s y (l ∷ ls) = (same_type (type_of s (root l)) (type_of s y) && same (passes_array s l) (is_array (type_of s y))) && arguments_fit s (suc y) ls

-- 12: "the called procedure's number is not smaller than the caller's; argument count differs; .."
unfoldable pub call_fits : Parts → ℕ → ℕ → List LValue → Bool
call_fits s p q ls =
    ltb q p
    && (eqb (length ls) (procedure_of s.procedures q).parameters && arguments_fit s (procedure_of s.procedures q).first ls)

unfoldable pub stmt_refusal : (Binary → Bool) → Parts → ℕ → List ℕ → List ℕ → Stmt → Verdict
stmt_refusal forbidden s p Γ D (empty n) = accepted
-- 10: "secret value into a public target". 11: "the root of an update's target occurs in its value or its own index".
stmt_refusal forbidden s p Γ D (update n o l e) =
    target_refusal forbidden s Γ l
    then expr_refusal forbidden s Γ e
    then given 10 n (secret s e && not (secret_root s l))
    then given 11 n (member (root l) (variables e ++ index l))
stmt_refusal forbidden s p Γ D (swap n l m) =
    target_refusal forbidden s Γ l
    then target_refusal forbidden s Γ m
    then given 11 n (swap_clash l m)
    then given 12 n (not (same_type (type_of s (root l)) (type_of s (root m))))
-- 10: "secret swap condition with a public target". 11: "or in the condition".
stmt_refusal forbidden s p Γ D (conditional_swap n e l m) =
    expr_refusal forbidden s Γ e
    then target_refusal forbidden s Γ l
    then target_refusal forbidden s Γ m
    then given 10 n (secret s e && not (secret_root s l && secret_root s m))
    then given 11 n (swap_clash l m || share (root l ∷ root m ∷ []) (variables e))
    then given 12 n (not (same_type (type_of s (root l)) (type_of s (root m))))
-- 10: "secret if condition". 11: "a variable of an if condition is changed in the branches".
stmt_refusal forbidden s p Γ D (branch n e t u) =
    expr_refusal forbidden s Γ e
    then stmt_refusal forbidden s p Γ D t
    then stmt_refusal forbidden s p Γ (declared t ++ D) u
    then given 10 n (secret s e)
    then given 11 n (share (variables e) (changed t ++ changed u))
-- 9: "a for whose variable is no counter". 10: "secret for bound". 11: "a variable of a for bound is changed in the body".
stmt_refusal forbidden s p Γ D (loop n x a b t) =
    expr_refusal forbidden s Γ a
    then expr_refusal forbidden s Γ b
    then given 7 n (not (declarable (procedure_of s.procedures p) D x))
    then given 9 n (not (is_counter (type_of s x)))
    then stmt_refusal forbidden s p (x ∷ Γ) (x ∷ D) t
    then given 10 n (secret s a || secret s b)
    then given 11 n (share (variables a ++ variables b) (changed t))
-- 11: "two arguments have one root, or an argument's root occurs in any argument's index"
stmt_refusal forbidden s p Γ D (call n d q ls) =
    arguments_refusal forbidden s Γ ls
    then given 11 n (repeats (roots ls) || share (roots ls) (indices ls))
    then given 12 n (not (call_fits s p q ls))
-- 9: "a block that declares one"
stmt_refusal forbidden s p Γ D (block n xs t) =
    given 7 n (not (every (declarable (procedure_of s.procedures p) D) xs))
    then given 9 n (not (every (λ x. not (is_counter (type_of s x))) xs))
    then stmt_refusal forbidden s p (xs ++ Γ) (xs ++ D) t
stmt_refusal forbidden s p Γ D nothing = accepted
stmt_refusal forbidden s p Γ D (list t u) = stmt_refusal forbidden s p Γ D t then stmt_refusal forbidden s p Γ (declared t ++ D) u

-- ---- procedures

-- 8: "non-parameter variable declared nowhere". "8 follows each procedure's walk, lowest variable first."
unfoldable pub undeclared_refusal : Procedure → Stmt → Verdict
undeclared_refusal q t = lowest 8 (λ x. member x (declared t)) (q.first + q.parameters) (q.count - q.parameters)

unfoldable pub body_refusal : (Binary → Bool) → Parts → ℕ → Stmt → Verdict
body_refusal forbidden s p t =
    stmt_refusal forbidden s p (range (procedure_of s.procedures p).first (procedure_of s.procedures p).parameters) [] t
    then undeclared_refusal (procedure_of s.procedures p) t

-- The walk of the count procedures from p on.
unfoldable pub walk_refusal : (Binary → Bool) → Header → Parts → ℕ → ℕ → Verdict
walk_refusal forbidden h s p zero = accepted
walk_refusal forbidden h s p (suc count) = body_refusal forbidden s p (body_of h s p) then walk_refusal forbidden h s (suc p) count
