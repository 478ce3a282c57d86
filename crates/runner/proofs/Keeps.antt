-- A body that the check accepts keeps to its own names, and calls smaller procedures with as many arguments as they have parameters.
-- The names in scope are always the procedure's own: its parameters at the start, then what blocks and fors declare.
use Prim.Native.Nat.{ℕ, ◌+◌, ◌≤◌}
use mathlib.Core.List.{List, [], ◌∷◌, ◌++◌}
use mathlib.Core.Bool.{Bool, not}
use mathlib.Core.Logic.{⊎_elim}
use native.Mathlib.Omega.{arith}
use lib.ListN.{length}
use lib.Dec.{T, eqb→eq, leb→le, ltb→lt, lit<}
use Rattle.rules.specs.Words.{Binary}
use Rattle.rules.specs.Image.{Parts, Procedure, procedure_of, is_array}
use Rattle.rules.specs.Form.{given}
use Rattle.rules.specs.Tree.{member, Expr, number, constant, variable, element, size, binary, unary, LValue, whole, entry, Stmt, empty, update, swap, conditional_swap, branch, loop, call, block, nothing, list, range, declared}
use Rattle.rules.specs.Walk.{every, type_of, named, element_refusal, expr_refusal, target_refusal, argument_refusal, arguments_refusal, declarable, call_fits, stmt_refusal, body_refusal}
use Rattle.laws.specs.Verdicts.{Accepted, and_iff, given_holds, then_both, then_iff, then_first, member-here, member-there, member-cases, append_cases, range_inside, every-each}
use Rattle.expressions.specs.Names.{In, WithinE, WithinL, WithinLs, WithinXs, Within}
use Rattle.executors.specs.World.{parameters_of}

-- Each of a list of names is in the range.
each_in : (lo hi : ℕ) (xs : List ℕ) → ((x : ℕ) → T (member x xs) → In lo hi x) → WithinXs lo hi xs
unfolding WithinXs
each_in lo hi [] f = tt
each_in lo hi (x ∷ xs) f = (f x (member-here x xs), each_in lo hi xs (λ y m. f y (member-there y x xs m)))

module _ (forbidden : Binary → Bool) (s : Parts) (p : ℕ) where
  abbrev own : Procedure
  own = procedure_of s.procedures p

  abbrev lo : ℕ
  lo = own.first

  abbrev hi : ℕ
  hi = own.first + own.count

  -- All names in scope are the procedure's own.
  abbrev InScope : List ℕ → Type 0
  InScope Γ = (x : ℕ) → T (member x Γ) → In lo hi x

  named_in : (Γ : List ℕ) → InScope Γ → (n x : ℕ) (wrong : Bool) → Accepted (named Γ n x wrong) → In lo hi x
  unfolding named
  named_in Γ G n x wrong e = G x (given_holds 7 n (member x Γ) (lit< tt) (then_first (given 7 n (not (member x Γ))) _ e))

  element-in : (Γ : List ℕ) → InScope Γ → (n : ℕ) (u : Bool) (x : ℕ) (a : Expr) → Accepted (element_refusal s Γ n u x a) → In lo hi x
  unfolding element_refusal
  element-in Γ G n u x a e = named_in Γ G n x (not (is_array (type_of s x))) (then_first (named Γ n x (not (is_array (type_of s x)))) _ e)

  within_expr : (Γ : List ℕ) → InScope Γ → (e : Expr) → Accepted (expr_refusal forbidden s Γ e) → WithinE lo hi e
  unfolding expr_refusal WithinE
  within_expr Γ G (number n v) k = tt
  within_expr Γ G (constant n x v) k = tt
  within_expr Γ G (variable n x) k = named_in Γ G n x _ k
  within_expr Γ G (element n u x e) k = let a = then_both (expr_refusal forbidden s Γ e) _ k in (element-in Γ G n u x e a.1, within_expr Γ G e a.0)
  within_expr Γ G (size n x) k = named_in Γ G n x _ k
  within_expr Γ G (binary n o a b) k = let c = simp then_iff at k in (within_expr Γ G a c.0, within_expr Γ G b c.1.0)
  within_expr Γ G (unary n o a) k = within_expr Γ G a k

  within_target : (Γ : List ℕ) → InScope Γ → (l : LValue) → Accepted (target_refusal forbidden s Γ l) → WithinL lo hi l
  unfolding target_refusal WithinL
  within_target Γ G (whole n x) k = named_in Γ G n x _ k
  within_target Γ G (entry n u x e) k = let a = then_both (expr_refusal forbidden s Γ e) _ k in (element-in Γ G n u x e a.1, within_expr Γ G e a.0)

  within_arguments : (Γ : List ℕ) → InScope Γ → (ls : List LValue) → Accepted (arguments_refusal forbidden s Γ ls) → WithinLs lo hi ls
  unfolding arguments_refusal argument_refusal WithinLs WithinL
  within_arguments Γ G [] k = tt
  within_arguments Γ G (whole n x ∷ ls) k = let a = then_both (argument_refusal forbidden s Γ (whole n x)) _ k in (named_in Γ G n x _ a.0, within_arguments Γ G ls a.1)
  within_arguments Γ G (entry n u x e ∷ ls) k =
      let a = then_both (argument_refusal forbidden s Γ (entry n u x e)) _ k in
      let b = then_both (expr_refusal forbidden s Γ e) _ a.0 in
      ((element-in Γ G n u x e b.1, within_expr Γ G e b.0), within_arguments Γ G ls a.1)

  declarable-in : (D : List ℕ) (x : ℕ) → T (declarable own D x) → In lo hi x
  unfolding declarable
  declarable-in D x t =
      let a = simp and_iff at t in
      let l = leb→le (own.first + own.parameters) x a.0 in
      record { low = omega arith; high = ltb→lt x (own.first + own.count) a.1.0 }

  declared-in : (D xs : List ℕ) → T (every (declarable own D) xs) → (x : ℕ) → T (member x xs) → In lo hi x
  declared-in D xs t x m = declarable-in D x (every-each (declarable own D) xs t x m)

  within_stmt : (t : Stmt) (Γ D : List ℕ) → InScope Γ → Accepted (stmt_refusal forbidden s p Γ D t) → Within (parameters_of s.procedures) p lo hi t
  unfolding stmt_refusal Within call_fits
  within_stmt (empty n) Γ D G k = tt
  within_stmt (update n o l e) Γ D G k = let a = simp then_iff at k in (within_target Γ G l a.0, within_expr Γ G e a.1.0)
  within_stmt (swap n l m) Γ D G k = let a = simp then_iff at k in (within_target Γ G l a.0, within_target Γ G m a.1.0)
  within_stmt (conditional_swap n e l m) Γ D G k = let a = simp then_iff at k in (within_expr Γ G e a.0, within_target Γ G l a.1.0, within_target Γ G m a.1.1.0)
  within_stmt (branch n e t u) Γ D G k = let a = simp then_iff at k in (within_expr Γ G e a.0, within_stmt t Γ D G a.1.0, within_stmt u Γ (declared t ++ D) G a.1.1.0)
  within_stmt (loop n x a b t) Γ D G k =
      let c = simp then_iff at k in
      let o = declarable-in D x (given_holds 7 n (declarable own D x) (lit< tt) c.1.1.0) in
      (o, within_expr Γ G a c.0, within_expr Γ G b c.1.0, within_stmt t (x ∷ Γ) (x ∷ D) (λ y m. ⊎_elim (λ e. rw e o) (G y) (member-cases y x Γ m)) c.1.1.1.1.0)
  within_stmt (call n d q ls) Γ D G k =
      let a = simp then_iff at k in
      let f = simp and_iff at (given_holds 12 n (call_fits s p q ls) (lit< tt) a.1.1) in
      record { smaller = ltb→lt q p f.0; as_many = eqb→eq (length ls) _ f.1.0; within = within_arguments Γ G ls a.0 }
  within_stmt (block n xs t) Γ D G k =
      let a = simp then_iff at k in
      let o = declared-in D xs (given_holds 7 n (every (declarable own D) xs) (lit< tt) a.0) in
      (each_in lo hi xs o, within_stmt t (xs ++ Γ) (xs ++ D) (λ y m. ⊎_elim (o y) (G y) (append_cases y xs Γ m)) a.1.1)
  within_stmt nothing Γ D G k = tt
  within_stmt (list t u) Γ D G k = let a = simp then_iff at k in (within_stmt t Γ D G a.0, within_stmt u Γ (declared t ++ D) G a.1)

  pub within_body : (t : Stmt) → own.parameters ≤ own.count → Accepted (body_refusal forbidden s p t) → Within (parameters_of s.procedures) p lo hi t
  unfolding body_refusal
  within_body t few k = within_stmt t (range own.first own.parameters) []
      (λ x m. let r = range_inside own.first own.parameters x m in record { low = r.0; high = omega (arith, r.1) })
      (then_first _ _ k)
