-- An accepted walk of a plain tree: the tree keeps the secrecy rules.
-- Every operator that divides must be in the set that is forbidden on secrets.
use Rattle.std.specs.Prelude.{ℕ, suc, ◌+◌, ◌<◌, ◌≡◌, Bool, true, false, ◌&&◌, ◌||◌, length, eqb}
use mathlib.Core.List.{List, [], ◌∷◌, ◌++◌}
use Rattle.std.proofs.Common.{ap, eqb→eq, lit<}
use Rattle.std.proofs.Math.Bool.{not}
use Rattle.std.proofs.Math.Logic.{⊎_elim}
use native.Mathlib.Omega.{arith}
use Rattle.std.proofs.Math.Dec.{T, leb→le, ltb→lt}
use Rattle.rules.specs.Words.{Binary, divides}
use Rattle.rules.specs.Image.{Header, Parts, Procedure, procedure_of, Variable, is_array, is_constant, is_counter, is_secret}
use Rattle.rules.specs.Form.{given}
use Rattle.rules.specs.Tree.{member, Expr, number, constant, variable, element, size, binary, unary, LValue, whole, entry, Stmt, empty, update, swap, conditional_swap, branch, loop, call, block, nothing, list, range, root}
use Rattle.rules.specs.Walk.{every, type_of, secret, secret_root, passes_array, named, element_refusal, expr_refusal, target_refusal, argument_refusal, arguments_refusal, declarable, same_type, arguments_fit, call_fits, stmt_refusal, body_refusal}
use Rattle.laws.specs.Verdicts.{Accepted, and_iff, and_left, nor_left, nor_right, same-equal, unequal_test, given-passed, given_holds, then_both, then_iff, then_first, member-cases, append_cases, range_inside, every-each}
use Rattle.laws.specs.Records.{Own, Single, Placed, Typed}
use Rattle.laws.specs.SecrecyRules.{secret_name, SafeExpr, SafeIndex, SafeTarget, SafeArguments, SafeStmt}
use Rattle.laws.specs.PlainTrees.{Safe, PlainExpr, PlainLValue, PlainArguments, PlainStmt}

-- A refusal of a && not b that was not given.
without : (a b : Bool) → T (not (a && not b)) → T (not b) → T (not a)
without true true t u = u
without true false t u = absurd t
without false b t u = tt

not_and_right : (a b : Bool) → T (not (a && b)) → T a → T (not b)
not_and_right true b t u = t
not_and_right false b t u = absurd u

not_and_left : (a b : Bool) → T (not a) → T (not (a && b))
not_and_left true b t = absurd t
not_and_left false b t = tt

-- Two names of one type are alike secret.
same-secrecy : (v w : Variable) → T (same_type v w) → is_secret v ≡ is_secret w
unfolding same_type
same-secrecy v w t = ap (λ x. eqb x 1) (eqb→eq v.secrecy w.secrecy (and_left (eqb v.secrecy w.secrecy) (eqb v.size w.size) t))

module _ (forbidden : Binary → Bool) (covers : (o : Binary) → T (divides o) → T (forbidden o)) (s : Parts) (p : ℕ) where
  abbrev procedure : Procedure
  procedure = procedure_of s.procedures p

  -- All names in scope are the procedure's own.
  abbrev InScope : List ℕ → Type 0
  InScope Γ = (x : ℕ) → T (member x Γ) → Own procedure x

  named-own : (Γ : List ℕ) (n x : ℕ) (wrong : Bool) → InScope Γ → Accepted (named Γ n x wrong) → Own procedure x × T (not wrong)
  unfolding named
  named-own Γ n x wrong G e = let a = simp then_iff at e in (G x (given_holds 7 n (member x Γ) (lit< tt) a.0), given-passed 9 n wrong (lit< tt) a.1)

  public-index : (Γ : List ℕ) (n : ℕ) (u : Bool) (x : ℕ) (e : Expr) → T (not u) → Accepted (element_refusal s Γ n u x e) → T (not (secret s e))
  unfolding element_refusal
  public-index Γ n u x e safe k = let a = simp then_iff at k in
      without (secret s e) u (nor_left (secret s e && not u) (u && not (is_secret (type_of s x))) (given-passed 10 n _ (lit< tt) a.1)) safe

  safe_expr : (Γ : List ℕ) → InScope Γ → (e : Expr) → PlainExpr s Safe e → Accepted (expr_refusal forbidden s Γ e) → SafeExpr s procedure e
  unfolding expr_refusal PlainExpr SafeExpr
  safe_expr Γ G (number n v) l k = tt
  safe_expr Γ G (constant n x v) l k = tt
  safe_expr Γ G (variable n x) l k = let a = named-own Γ n x _ G k in (a.1, l, a.0.0, a.0.1)
  safe_expr Γ G (element n u x e) l k = let a = then_both (expr_refusal forbidden s Γ e) _ k in (safe_expr Γ G e l.1 a.0, public-index Γ n u x e l.0 a.1)
  safe_expr Γ G (size n x) l k = tt
  safe_expr Γ G (binary n o a b) l k = let c = simp then_iff at k in
      (safe_expr Γ G a l.0 c.0, safe_expr Γ G b l.1 c.1.0, λ t. not_and_right (forbidden o) (secret s a || secret s b) (given-passed 13 n _ (lit< tt) c.1.1) (covers o t))
  safe_expr Γ G (unary n o a) l k = safe_expr Γ G a l k

  safe_target : (Γ : List ℕ) → InScope Γ → (l : LValue) → PlainLValue s Safe l → Accepted (target_refusal forbidden s Γ l) → SafeTarget s procedure l
  unfolding target_refusal PlainLValue SafeTarget
  safe_target Γ G (whole n x) h k = let a = named-own Γ n x _ G k in
      (nor_left (is_array (type_of s x)) (is_constant (type_of s x)) a.1, nor_right (is_array (type_of s x)) (is_constant (type_of s x)) a.1, a.0.0, a.0.1)
  safe_target Γ G (entry n u x e) h k = let a = then_both (expr_refusal forbidden s Γ e) _ k in (safe_expr Γ G e h.1 a.0, public-index Γ n u x e h.0 a.1)

  -- An argument; if it is passed for no array, it is a single cell.
  safe_argument : (Γ : List ℕ) → InScope Γ → (l : LValue) → PlainLValue s Safe l → Accepted (argument_refusal forbidden s Γ l)
      → SafeIndex s procedure l × (T (not (passes_array s l)) → SafeTarget s procedure l)
  unfolding argument_refusal PlainLValue SafeIndex SafeTarget passes_array
  safe_argument Γ G (whole n x) h k = (tt, λ t. let a = named-own Γ n x _ G k in (t, a.1, a.0.0, a.0.1))
  safe_argument Γ G (entry n u x e) h k = let a = then_both (expr_refusal forbidden s Γ e) _ k in
      let i : SafeExpr s procedure e × T (not (secret s e)) = (safe_expr Γ G e h.1 a.0, public-index Γ n u x e h.0 a.1) in (i, λ t. i)

  safe_arguments : (Γ : List ℕ) → InScope Γ → (y : ℕ) (ls : List LValue) → PlainArguments s Safe ls
      → Accepted (arguments_refusal forbidden s Γ ls) → T (arguments_fit s y ls) → SafeArguments s procedure y ls
  unfolding arguments_refusal arguments_fit PlainArguments SafeArguments
  safe_arguments Γ G y [] h k t = tt
  safe_arguments Γ G y (l ∷ ls) h k t =
      let a = simp then_iff at k in
      let f = simp and_iff at t in
      let r = safe_argument Γ G l h.0 a.0 in
      (r.0, (λ c. r.1 (rw (same-equal (passes_array s l) (is_array (type_of s y)) f.0.1) c)), same-secrecy (type_of s (root l)) (type_of s y) f.0.0, safe_arguments Γ G (suc y) ls h.1 a.1 f.1)

  swapped : (n : ℕ) (l m : LValue) → Accepted (given 12 n (not (same_type (type_of s (root l)) (type_of s (root m))))) → secret_name s (root l) ≡ secret_name s (root m)
  swapped n l m k = same-secrecy (type_of s (root l)) (type_of s (root m)) (given_holds 12 n (same_type (type_of s (root l)) (type_of s (root m))) (lit< tt) k)

  declarable-own : (D : List ℕ) (x : ℕ) → T (declarable procedure D x) → Own procedure x
  unfolding declarable
  declarable-own D x t = let a = simp and_iff at t in
      let l = leb→le (procedure.first + procedure.parameters) x a.0 in let m = ltb→lt x (procedure.first + procedure.count) a.1.0 in omega arith

  module _ (h : Header) (P : Placed h s p) (types : (x : ℕ) → x < h.variables → Typed h s x) where
    -- "Constants and counters are public"
    safe_counter : (x : ℕ) → Own procedure x → T (is_counter (type_of s x)) → Single s procedure x × T (not (secret_name s x))
    safe_counter x o t =
        let e = eqb→eq (type_of s x).kind 3 t in
        let z = ((types x (omega (arith, P.end))).plain (omega arith)).0 in
        ((unequal_test (type_of s x).kind 1 (λ q. omega arith), unequal_test (type_of s x).kind 2 (λ q. omega arith), o.0, o.1), unequal_test (type_of s x).secrecy 1 (λ q. omega arith))

    in_scope : (xs Γ D : List ℕ) → T (every (declarable procedure D) xs) → InScope Γ → InScope (xs ++ Γ)
    in_scope xs Γ D t G x m = ⊎_elim (λ a. declarable-own D x (every-each (declarable procedure D) xs t x a)) (G x) (append_cases x xs Γ m)

    pub safe_stmt : (t : Stmt) → PlainStmt s Safe t → (Γ D : List ℕ) → InScope Γ → Accepted (stmt_refusal forbidden s p Γ D t) → SafeStmt s procedure t
    unfolding stmt_refusal PlainStmt SafeStmt call_fits
    safe_stmt (empty n) l Γ D G k = tt
    safe_stmt (update n o x e) l Γ D G k = let a = simp then_iff at k in
        (safe_target Γ G x l.0 a.0, safe_expr Γ G e l.1 a.1.0, without (secret s e) (secret_root s x) (given-passed 10 n _ (lit< tt) a.1.1.0))
    safe_stmt (swap n x y) l Γ D G k = let a = simp then_iff at k in
        (safe_target Γ G x l.0 a.0, safe_target Γ G y l.1 a.1.0, swapped n x y a.1.1.1)
    safe_stmt (conditional_swap n e x y) l Γ D G k = let a = simp then_iff at k in (
      safe_expr Γ G e l.0 a.0,
      safe_target Γ G x l.1 a.1.0,
      safe_target Γ G y l.2 a.1.1.0,
      swapped n x y a.1.1.1.1.1,
      λ t. without (secret s e) (secret_root s x && secret_root s y) (given-passed 10 n _ (lit< tt) a.1.1.1.0) (not_and_left (secret_root s x) (secret_root s y) t),
    )
    safe_stmt (branch n e t u) l Γ D G k = let a = simp then_iff at k in
        ((safe_expr Γ G e l.0 a.0, given-passed 10 n _ (lit< tt) a.1.1.1.0), safe_stmt t l.1 Γ D G a.1.0, safe_stmt u l.2 Γ _ G a.1.1.0)
    safe_stmt (loop n x a b t) l Γ D G k =
        let c = simp then_iff at k in
        let o = declarable-own D x (given_holds 7 n (declarable procedure D x) (lit< tt) c.1.1.0) in
        let z = given-passed 10 n (secret s a || secret s b) (lit< tt) c.1.1.1.1.1.0 in (
          (safe_expr Γ G a l.0 c.0, nor_left (secret s a) (secret s b) z),
          (safe_expr Γ G b l.1 c.1.0, nor_right (secret s a) (secret s b) z),
          safe_counter x o (given_holds 9 n (is_counter (type_of s x)) (lit< tt) c.1.1.1.0),
          safe_stmt t l.2 (x ∷ Γ) (x ∷ D) (λ y m. ⊎_elim (λ e. rw e o) (G y) (member-cases y x Γ m)) c.1.1.1.1.0,
        )
    safe_stmt (call n d q ls) l Γ D G k =
        let a = simp then_iff at k in
        let f = simp and_iff at (given_holds 12 n (call_fits s p q ls) (lit< tt) a.1.1) in
        (eqb→eq (length ls) _ f.1.0, safe_arguments Γ G _ ls l a.0 f.1.1)
    safe_stmt (block n xs t) l Γ D G k = let a = simp then_iff at k in
        safe_stmt t l (xs ++ Γ) (xs ++ D) (in_scope xs Γ D (given_holds 7 n (every (declarable procedure D) xs) (lit< tt) a.0) G) a.1.1
    safe_stmt nothing l Γ D G k = tt
    safe_stmt (list t u) l Γ D G k = let a = simp then_iff at k in (safe_stmt t l.0 Γ D G a.0, safe_stmt u l.1 Γ _ G a.1)

    pub safe_body : (t : Stmt) → PlainStmt s Safe t → Accepted (body_refusal forbidden s p t) → SafeStmt s procedure t
    unfolding body_refusal
    safe_body t l k = safe_stmt t l (range procedure.first procedure.parameters) []
        (λ x m. let r = range_inside procedure.first procedure.parameters x m in omega (arith, P.parameters)) (then_first _ _ k)
