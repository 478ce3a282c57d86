-- What every tree that is read from an image is like, accepted or not: no constant is read as another variable,
-- and an element is unsafe only if some node is of kind 23.
use Prim.Native.Nat.{ℕ, zero, suc, ◌+◌, ◌-◌, ◌≤◌, ◌<◌}
use Rattle.std.specs.Prelude.{List, [], ◌∷◌, Bool, false, not, get_or, T, eqb}
use Rattle.std.proofs.Common.{arith, eqb→eq}
use Rattle.rules.specs.Image.{Header, header_of, Parts, parts_of, is_constant, Node, node_of, procedure_of}
use Rattle.rules.specs.Form.{search}
use Rattle.rules.specs.Tree.{Expr, number, constant, variable, element, size, binary, unary, LValue, whole, entry, Stmt, empty, update, swap, conditional_swap, branch, loop, call, block, nothing, list, Reading, no_reading, expr_of, lvalue_of, stmt_of, reading_of, readings, reading_at, body_of}
use Rattle.rules.specs.Walk.{type_of}
use Rattle.rules.specs.Check.{without_unsafe}
use Rattle.laws.specs.Verdicts.{is_true, either, search-before}

-- `allowed` says which elements may stand in the tree: any, or only those that are not unsafe.
module _ (s : Parts) (allowed : Bool → Type 0) where
  unfoldable pub PlainExpr : Expr → Type 0
  PlainExpr (number n v) = Unit {0}
  PlainExpr (constant n x v) = Unit {0}
  PlainExpr (variable n x) = T (not (is_constant (type_of s x)))
  PlainExpr (element n u x e) = allowed u × PlainExpr e
  PlainExpr (size n x) = Unit {0}
  PlainExpr (binary n o a b) = PlainExpr a × PlainExpr b
  PlainExpr (unary n o a) = PlainExpr a

  unfoldable pub PlainLValue : LValue → Type 0
  PlainLValue (whole n x) = Unit {0}
  PlainLValue (entry n u x e) = allowed u × PlainExpr e

  unfoldable pub PlainArguments : List LValue → Type 0
  PlainArguments [] = Unit {0}
  PlainArguments (l ∷ ls) = PlainLValue l × PlainArguments ls

  unfoldable pub PlainStmt : Stmt → Type 0
  PlainStmt (empty n) = Unit {0}
  PlainStmt (update n o l e) = PlainLValue l × PlainExpr e
  PlainStmt (swap n l m) = PlainLValue l × PlainLValue m
  PlainStmt (conditional_swap n e l m) = PlainExpr e × PlainLValue l × PlainLValue m
  PlainStmt (branch n e t u) = PlainExpr e × PlainStmt t × PlainStmt u
  PlainStmt (loop n x a b t) = PlainExpr a × PlainExpr b × PlainStmt t
  PlainStmt (call n d p ls) = PlainArguments ls
  PlainStmt (block n xs t) = PlainStmt t
  PlainStmt nothing = Unit {0}
  PlainStmt (list t u) = PlainStmt t × PlainStmt u

  record Plain (r : Reading) : Type 0 where
    expr : PlainExpr r.as_expr
    lvalue : PlainLValue r.as_lvalue
    stmt : PlainStmt r.as_stmt
    stmts : PlainStmt r.as_stmts
    arguments : PlainArguments r.as_arguments

  module _ (safe : allowed false) (n : ℕ) (r : Node) (fits : allowed (eqb r.kind 23)) (at : ℕ → Reading) (A : (m : ℕ) → Plain (at m)) where
    plain-expr : PlainExpr (expr_of s n r at)
    unfolding expr_of PlainExpr
    plain-expr =
        either PlainExpr (eqb r.kind 20) _ _ (λ t. tt) (λ t.
        either PlainExpr (eqb r.kind 21) _ _ (λ t. either PlainExpr (is_constant (type_of s r.a)) _ _ (λ c. tt) (λ c. c)) (λ t.
        either PlainExpr (eqb r.kind 22) _ _ (λ t. (safe, (A r.b).expr)) (λ t.
        either PlainExpr (eqb r.kind 23) _ _ (λ t. (rw (is_true (eqb r.kind 23) t) at fits, (A r.b).expr)) (λ t.
        either PlainExpr (eqb r.kind 24) _ _ (λ t. tt) (λ t.
        either PlainExpr (eqb r.kind 25) _ _ (λ t. ((A r.a).expr, (A r.b).expr)) (λ t. (A r.a).expr))))))

    plain-lvalue : PlainLValue (lvalue_of n r at)
    unfolding lvalue_of PlainLValue
    plain-lvalue = either PlainLValue (eqb r.kind 21) _ _ (λ t. tt) (λ t. (fits, (A r.b).expr))

    plain-stmt : PlainStmt (stmt_of n r at)
    unfolding stmt_of PlainStmt
    plain-stmt =
        either PlainStmt (eqb r.kind 1) _ _ (λ t. tt) (λ t.
        either PlainStmt (eqb r.kind 2) _ _ (λ t. ((A r.a).lvalue, (A r.b).expr)) (λ t.
        either PlainStmt (eqb r.kind 3) _ _ (λ t. ((A r.a).lvalue, (A r.b).lvalue)) (λ t.
        either PlainStmt (eqb r.kind 4) _ _ (λ t. ((A r.a).expr, (A r.b).lvalue, (A r.c).lvalue)) (λ t.
        either PlainStmt (eqb r.kind 5) _ _ (λ t. ((A r.a).expr, (A r.b).stmt, (A r.c).stmt)) (λ t.
        either PlainStmt (eqb r.kind 6) _ _ (λ t. ((A r.b).expr, (A r.c).expr, (A r.d).stmt)) (λ t.
        either PlainStmt (eqb r.kind 7) _ _ (λ t. (A r.b).arguments) (λ t.
        either PlainStmt (eqb r.kind 8) _ _ (λ t. (A r.b).arguments) (λ t. (A r.c).stmts))))))))

    plain-reading : Plain (reading_of s n r at)
    unfolding reading_of PlainStmt PlainArguments
    plain-reading = record {
      expr = plain-expr;
      lvalue = plain-lvalue;
      stmt = plain-stmt;
      stmts = (plain-stmt, (A r.next).stmts);
      arguments = (plain-lvalue, (A r.next).arguments);
    }

  plain-none : Plain no_reading
  unfolding PlainExpr PlainLValue PlainStmt PlainArguments
  plain-none = record { expr = tt; lvalue = tt; stmt = tt; stmts = tt; arguments = tt }

  plain-readings : allowed false → (n count : ℕ) → ((m : ℕ) → n ≤ m → m < n + count → allowed (eqb (node_of s.nodes m).kind 23))
      → (i : ℕ) → Plain (get_or (readings s n count) i no_reading)
  unfolding readings
  plain-readings safe n zero fits i = plain-none
  plain-readings safe n (suc count) fits zero =
      plain-reading safe n (node_of s.nodes n) (fits n (omega arith) (omega arith)) _ (λ m. plain-readings safe (suc n) count (λ k l h. fits k (omega arith) (omega arith)) (m - suc n))
  plain-readings safe n (suc count) fits (suc i) = plain-readings safe (suc n) count (λ k l h. fits k (omega arith) (omega arith)) i

  plain_body : (h : Header) → allowed false → ((m : ℕ) → m < h.nodes → allowed (eqb (node_of s.nodes m).kind 23)) → (p : ℕ) → PlainStmt (body_of h s p)
  unfolding body_of reading_at
  plain_body h safe fits p = (plain-readings safe 0 h.nodes (λ m l k. fits m (omega arith)) (procedure_of s.procedures p).body).stmt

-- With any look-ups.
abbrev pub Any : Bool → Type 0
Any unsafe = Unit {0}

pub plain-bodies : (h : Header) (s : Parts) (p : ℕ) → PlainStmt s Any (body_of h s p)
plain-bodies h s p = plain_body s Any h tt (λ m l. tt) p

-- Without unsafe look-ups.
abbrev pub Safe : Bool → Type 0
Safe unsafe = T (not unsafe)

pub safe_bodies : (image : List ℕ) → T (without_unsafe image) → (p : ℕ) → PlainStmt (parts_of image) Safe (body_of (header_of image) (parts_of image) p)
unfolding without_unsafe
safe_bodies image t p =
    let e = eqb→eq (search (λ n. not (eqb (node_of (parts_of image).nodes n).kind 23)) 0 (header_of image).nodes) (header_of image).nodes t in
    plain_body (parts_of image) Safe (header_of image) tt
    (λ m l. search-before (λ n. not (eqb (node_of (parts_of image).nodes n).kind 23)) 0 (header_of image).nodes m (omega arith) (omega arith)) p
