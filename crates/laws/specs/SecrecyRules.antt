-- What the secrecy rules ask of a tree without unsafe look-ups: "000, Figure 2" as a predicate.
-- Every index, condition, bound and divisor is public, and no secret goes where it would be seen.
use Rattle.std.specs.Prelude.{ℕ, suc, List, [], ◌∷◌, ◌≡◌, Bool, not, ◌||◌, length, T}
use Rattle.rules.specs.Words.{divides}
use Rattle.rules.specs.Image.{Parts, Procedure, procedure_of, is_array, is_secret}
use Rattle.rules.specs.Tree.{Expr, number, constant, variable, element, size, binary, unary, LValue, whole, entry, Stmt, empty, update, swap, conditional_swap, branch, loop, call, block, nothing, list, root}
use Rattle.rules.specs.Walk.{type_of, secret}
use Rattle.laws.specs.Records.{Single}

module _ (s : Parts) where
  abbrev pub secret_name : ℕ → Bool
  secret_name x = is_secret (type_of s x)

  module _ (q : Procedure) where
    unfoldable pub SafeExpr : Expr → Type 0
    SafeExpr (number n v) = Unit {0}
    SafeExpr (constant n x v) = Unit {0}
    SafeExpr (variable n x) = Single s q x
    SafeExpr (element n u x e) = SafeExpr e × T (not (secret s e))
    SafeExpr (size n x) = Unit {0}
    SafeExpr (binary n o a b) = SafeExpr a × SafeExpr b × (T (divides o) → T (not (secret s a || secret s b)))
    SafeExpr (unary n o a) = SafeExpr a

    -- An L-value whose index may be read; one that is a single cell.
    unfoldable pub SafeIndex : LValue → Type 0
    SafeIndex (whole n x) = Unit {0}
    SafeIndex (entry n u x e) = SafeExpr e × T (not (secret s e))

    unfoldable pub SafeTarget : LValue → Type 0
    SafeTarget (whole n x) = Single s q x
    SafeTarget (entry n u x e) = SafeExpr e × T (not (secret s e))

    -- The arguments for the parameters from y on.
    unfoldable pub SafeArguments : ℕ → List LValue → Type 0
    SafeArguments y [] = Unit {0}
    SafeArguments y (l ∷ ls) = SafeIndex l × (T (not (is_array (type_of s y))) → SafeTarget l) × (secret_name (root l) ≡ secret_name y) × SafeArguments (suc y) ls

    unfoldable pub SafeStmt : Stmt → Type 0
    SafeStmt (empty n) = Unit {0}
    SafeStmt (update n o l e) = SafeTarget l × SafeExpr e × (T (not (secret_name (root l))) → T (not (secret s e)))
    SafeStmt (swap n l m) = SafeTarget l × SafeTarget m × (secret_name (root l) ≡ secret_name (root m))
    SafeStmt (conditional_swap n e l m) =
        SafeExpr e × SafeTarget l × SafeTarget m × (secret_name (root l) ≡ secret_name (root m)) × (T (not (secret_name (root l))) → T (not (secret s e)))
    SafeStmt (branch n e t u) = (SafeExpr e × T (not (secret s e))) × SafeStmt t × SafeStmt u
    SafeStmt (loop n x a b t) = (SafeExpr a × T (not (secret s a))) × (SafeExpr b × T (not (secret s b))) × (Single s q x × T (not (secret_name x))) × SafeStmt t
    SafeStmt (call n d p ls) = (length ls ≡ (procedure_of s.procedures p).parameters) × SafeArguments (procedure_of s.procedures p).first ls
    SafeStmt (block n xs t) = SafeStmt t
    SafeStmt nothing = Unit {0}
    SafeStmt (list t u) = SafeStmt t × SafeStmt u
