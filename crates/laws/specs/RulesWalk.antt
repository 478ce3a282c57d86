-- An accepted walk gives the static rules: what it reads is readable, roots stand in scope, and declared names are new and the procedure's own.
use Prim.Native.Nat.{ℕ, zero, suc, ◌+◌, ◌≤◌, ◌<◌}
use mathlib.Core.List.{List, [], ◌∷◌, ◌++◌}
use Rattle.std.specs.Prelude.{◌≡◌, refl, Bool, ◌&&◌, ◌||◌, length, get_or, T, eqb}
use Rattle.std.proofs.Math.Path.{sym}
use Rattle.std.proofs.Common.{◌∙◌, ap, leb→le, lit<}
use Rattle.std.proofs.Math.Bool.{not}
use Rattle.std.proofs.Math.Logic.{⊎_elim}
use native.Mathlib.Omega.{arith}
use Rattle.std.proofs.Math.Dec.{eqb_refl, eqb→eq, ltb→lt, T_not}
use Rattle.rules.specs.Words.{Binary}
use Rattle.rules.specs.Image.{Parts, Procedure, procedure_of, is_array, is_constant, is_counter}
use Rattle.rules.specs.Form.{given, ◌then◌}
use Rattle.rules.specs.Tree.{member, range, Expr, number, constant, variable, element, size, binary, unary, LValue, whole, entry, Stmt, empty, update, swap, conditional_swap, branch, loop, call, block, nothing, list, variables, root, index, roots, indices, changed, declared}
use Rattle.rules.specs.Walk.{every, share, repeats, type_of, secret, secret_root, passes_array, named, element_refusal, expr_refusal, target_refusal, argument_refusal, arguments_refusal, declarable, swap_clash, same_type, arguments_fit, call_fits, stmt_refusal, undeclared_refusal, body_refusal}
use Rattle.laws.specs.Records.{Single}
use Rattle.laws.specs.Verdicts.{Accepted, and_iff, and_left, and_right, or_cases, nor_left, nor_right, same-equal, unequal_test, given-passed, given_holds, then_both, then_first, then_rest, member-here, member-there, member-cases, member-none, member-one, append_cases, append_left, append_right, range_inside, every-each, share-none, repeats-none}
use Rattle.laws.specs.Readings.{Readable, Indexed, Target}
use Rattle.laws.specs.Rules.{outward, Apart, CallLawful, Lawful}
use Rattle.laws.specs.PlainTrees.{Any, PlainExpr, PlainLValue, PlainArguments, PlainStmt}
use Rattle.laws.specs.Procedures.{LawfulBody}

-- ---- names

pub named-read : (Γ : List ℕ) (n x : ℕ) (wrong : Bool) → Accepted (named Γ n x wrong) → T (member x Γ) × T (not wrong)
unfolding named
named-read Γ n x wrong e =
    let b = then_both (given 7 n (not (member x Γ))) (given 9 n wrong) e in
    (given_holds 7 n (member x Γ) (lit< tt) b.0, given-passed 9 n wrong (lit< tt) b.1)

roots-count : (ls : List LValue) → length (roots ls) ≡ length ls
unfolding roots
roots-count [] = refl
roots-count (l ∷ ls) = ap suc (roots-count ls)

roots-at : (ls : List LValue) (j : ℕ) → j < length ls → get_or (roots ls) j 0 ≡ root (get_or ls j (whole 0 0))
unfolding roots
roots-at [] j h = absurd (omega arith)
roots-at (l ∷ ls) zero h = refl
roots-at (l ∷ ls) (suc j) h = roots-at ls j (omega arith)

-- No name of one list in the other, in parts.
apart_first : (ys zs xs : List ℕ) → Apart (ys ++ zs) xs → Apart ys xs
apart_first ys zs xs h x m k = h x (append_left x ys zs m) k

apart_second : (ys zs xs : List ℕ) → Apart (ys ++ zs) xs → Apart zs xs
apart_second ys zs xs h x m k = h x (append_right x ys zs m) k

apart_other : (xs ys : List ℕ) → Apart xs ys → Apart ys xs
apart_other xs ys h x m k = h x k m

apart_name : (x : ℕ) (ys : List ℕ) → T (not (member x ys)) → Apart ys (x ∷ [])
apart_name x ys t y m k = T_not (member x ys) t (rw (member-one y x k) at m)

-- ---- one procedure, whose counters are words

module _ (forbidden : Binary → Bool) (s : Parts) (p : ℕ)
    (words : (x : ℕ) → x < (procedure_of s.procedures p).first + (procedure_of s.procedures p).count → T (is_counter (type_of s x)) → (type_of s x).size ≡ 64) where
  abbrev q : Procedure
  q = procedure_of s.procedures p

  abbrev one : ℕ → Type 0
  one = Single s q

  -- The names in scope are the procedure's.
  abbrev Own : List ℕ → Type 0
  Own Γ = (x : ℕ) → T (member x Γ) → (q.first ≤ x) × (x < q.first + q.count)

  -- ---- expressions and L-values

  expr_read : (Γ : List ℕ) → Own Γ → (e : Expr) → PlainExpr s Any e → Accepted (expr_refusal forbidden s Γ e) → Readable one e
  unfolding expr_refusal Readable PlainExpr
  expr_read Γ own (number n v) k e = tt
  expr_read Γ own (constant n x v) k e = tt
  expr_read Γ own (variable n x) k e = let r = named-read Γ n x (is_array (type_of s x)) e in (r.1, k, (own x r.0).0, (own x r.0).1)
  expr_read Γ own (element n u x a) k e = expr_read Γ own a k.1 (then_first (expr_refusal forbidden s Γ a) (element_refusal s Γ n u x a) e)
  expr_read Γ own (size n x) k e = tt
  expr_read Γ own (binary n o a b) k e =
      let r = then_both (expr_refusal forbidden s Γ a) (expr_refusal forbidden s Γ b then given 13 n (forbidden o && (secret s a || secret s b))) e in
      (expr_read Γ own a k.0 r.0, expr_read Γ own b k.1 (then_first (expr_refusal forbidden s Γ b) (given 13 n (forbidden o && (secret s a || secret s b))) r.1))
  expr_read Γ own (unary n o a) k e = expr_read Γ own a k e

  element-root : (Γ : List ℕ) (n : ℕ) (u : Bool) (x : ℕ) (a : Expr) → Accepted (element_refusal s Γ n u x a) → T (member x Γ)
  unfolding element_refusal
  element-root Γ n u x a e = (named-read Γ n x (not (is_array (type_of s x))) (then_first (named Γ n x (not (is_array (type_of s x)))) _ e)).0

  target_read : (Γ : List ℕ) → Own Γ → (l : LValue) → PlainLValue s Any l → Accepted (target_refusal forbidden s Γ l) → Target one l × T (member (root l) Γ)
  unfolding target_refusal Target PlainLValue root
  target_read Γ own (whole n x) k e =
      let r = named-read Γ n x (is_array (type_of s x) || is_constant (type_of s x)) e in
      ((nor_left (is_array (type_of s x)) (is_constant (type_of s x)) r.1, nor_right (is_array (type_of s x)) (is_constant (type_of s x)) r.1, (own x r.0).0, (own x r.0).1), r.0)
  target_read Γ own (entry n u x a) k e =
      let r = then_both (expr_refusal forbidden s Γ a) (element_refusal s Γ n u x a) e in
      (expr_read Γ own a k.1 r.0, element-root Γ n u x a r.1)

  record Argument (Γ : List ℕ) (l : LValue) : Type 0 where
    indexed : Indexed one l
    target : T (not (passes_array s l)) → Target one l
    rooted : T (member (root l) Γ)

  argument_read : (Γ : List ℕ) → Own Γ → (l : LValue) → PlainLValue s Any l → Accepted (argument_refusal forbidden s Γ l) → Argument Γ l
  unfolding argument_refusal Target Indexed PlainLValue root passes_array
  argument_read Γ own (whole n x) k e =
      let r = named-read Γ n x (is_constant (type_of s x)) e in
      record { indexed = tt; target = λ a. (a, r.1, (own x r.0).0, (own x r.0).1); rooted = r.0 }
  argument_read Γ own (entry n u x a) k e =
      let r = then_both (expr_refusal forbidden s Γ a) (element_refusal s Γ n u x a) e in
      let b = expr_read Γ own a k.1 r.0 in
      record { indexed = b; target = λ _. b; rooted = element-root Γ n u x a r.1 }

  arguments-read : (Γ : List ℕ) → Own Γ → (ls : List LValue) → PlainArguments s Any ls → Accepted (arguments_refusal forbidden s Γ ls)
      → (j : ℕ) → j < length ls → Argument Γ (get_or ls j (whole 0 0))
  unfolding arguments_refusal PlainArguments
  arguments-read Γ own [] k e j h = absurd (omega arith)
  arguments-read Γ own (l ∷ ls) k e zero h = argument_read Γ own l k.0 (then_first (argument_refusal forbidden s Γ l) (arguments_refusal forbidden s Γ ls) e)
  arguments-read Γ own (l ∷ ls) k e (suc j) h = arguments-read Γ own ls k.1 (then_rest (argument_refusal forbidden s Γ l) (arguments_refusal forbidden s Γ ls) e) j (omega arith)

  arguments-rooted : (Γ : List ℕ) → Own Γ → (ls : List LValue) → PlainArguments s Any ls → Accepted (arguments_refusal forbidden s Γ ls)
      → (x : ℕ) → T (member x (roots ls)) → T (member x Γ)
  unfolding arguments_refusal PlainArguments roots
  arguments-rooted Γ own [] k e x m = absurd (member-none x m)
  arguments-rooted Γ own (l ∷ ls) k e x m =
      let r = then_both (argument_refusal forbidden s Γ l) (arguments_refusal forbidden s Γ ls) e in
      ⊎_elim (λ i. rw i (argument_read Γ own l k.0 r.0).rooted) (λ i. arguments-rooted Γ own ls k.1 r.1 x i) (member-cases x (root l) (roots ls) m)

  -- ---- calls

  record Fits (l : LValue) (y : ℕ) : Type 0 where
    size : (type_of s (root l)).size ≡ (type_of s y).size
    array : passes_array s l ≡ is_array (type_of s y)

  fits_each : (y : ℕ) (ls : List LValue) → T (arguments_fit s y ls) → (j : ℕ) → j < length ls → Fits (get_or ls j (whole 0 0)) (y + j)
  unfolding arguments_fit same_type
  fits_each y [] t j h = absurd (omega arith)
  fits_each y (l ∷ ls) t zero h =
      let r = simp and_iff at t in
      let e : y + 0 ≡ y = omega arith in
      rw e (record { size = eqb→eq (type_of s (root l)).size (type_of s y).size r.0.0.1; array = same-equal (passes_array s l) (is_array (type_of s y)) r.0.1 })
  fits_each y (l ∷ ls) t (suc j) h =
      let r = simp and_iff at t in
      let e : y + suc j ≡ suc y + j = omega arith in
      rw e (fits_each (suc y) ls r.1 j (omega arith))

  call_lawful : (Γ : List ℕ) → Own Γ → (n c : ℕ) (ls : List LValue) → PlainArguments s Any ls → Accepted (arguments_refusal forbidden s Γ ls)
      → T (not (repeats (roots ls) || share (roots ls) (indices ls))) → T (call_fits s p c ls) → CallLawful s one c ls
  unfolding call_fits
  call_lawful Γ own n c ls k e clash fits =
      let r = simp and_iff at fits in
      let A = arguments-read Γ own ls k e in
      let F = fits_each (procedure_of s.procedures c).first ls r.1.1 in
      record {
        count = eqb→eq (length ls) (procedure_of s.procedures c).parameters r.1.0;
        indexed = λ j h. (A j h).indexed;
        target = λ j h a. (A j h).target (rw (F j h).array a);
        size = λ j h. (F j h).size;
        once = λ j m hj hm i. repeats-none (roots ls) (nor_left (repeats (roots ls)) (share (roots ls) (indices ls)) clash) j m (rw roots-count hj) (rw roots-count hm)
            (roots-at ls j hj ∙ i ∙ sym (roots-at ls m hm));
        apart = apart_other (roots ls) (indices ls) (share-none (roots ls) (indices ls) (nor_right (repeats (roots ls)) (share (roots ls) (indices ls)) clash));
      }

  -- ---- statements

  -- A counter is of no other kind.
  other-kind : (x k : ℕ) → T (is_counter (type_of s x)) → k < 3 → T (not (eqb (type_of s x).kind k))
  other-kind x k t l = let e : (type_of s x).kind ≡ 3 = eqb→eq (type_of s x).kind 3 t in unequal_test (type_of s x).kind k (λ i. omega arith)

  -- What an accepted walk says of a statement, with Γ in scope and D declared so far.
  record Walked (Γ D : List ℕ) (t : Stmt) : Type 0 where
    lawful : Lawful s one t
    scoped : (x : ℕ) → T (outward x t) → T (member x Γ)
    own : (x : ℕ) → T (member x (declared t)) → (q.first + q.parameters ≤ x) × (x < q.first + q.count)
    new : (x : ℕ) → T (member x (declared t)) → T (member x D) → ⊥

  declarable-read : (D : List ℕ) (x : ℕ) → T (declarable q D x) → (q.first + q.parameters ≤ x) × (x < q.first + q.count) × (T (member x D) → ⊥)
  unfolding declarable
  declarable-read D x t = let r = simp and_iff at t in (leb→le (q.first + q.parameters) x r.0, ltb→lt x (q.first + q.count) r.1.0, T_not (member x D) r.1.1)

  -- A statement that declares nothing.
  simple : (Γ D : List ℕ) (t : Stmt) → Lawful s one t → ((x : ℕ) → T (outward x t) → T (member x Γ)) → ((x : ℕ) → T (member x (declared t)) → ⊥) → Walked Γ D t
  simple Γ D t k roots none = record { lawful = k; scoped = roots; own = λ x m. absurd (none x m); new = λ x m d. none x m }

  -- One statement after another.
  pair-scoped : (Γ D : List ℕ) (t u : Stmt) → Walked Γ D t → Walked Γ (declared t ++ D) u → (x : ℕ) → T (outward x t || outward x u) → T (member x Γ)
  pair-scoped Γ D t u A B x m = ⊎_elim (A.scoped x) (B.scoped x) (or_cases (outward x t) (outward x u) m)

  pair-own : (Γ D : List ℕ) (t u : Stmt) → Walked Γ D t → Walked Γ (declared t ++ D) u → (x : ℕ) → T (member x (declared t ++ declared u)) → (q.first + q.parameters ≤ x) × (x < q.first + q.count)
  pair-own Γ D t u A B x m = ⊎_elim (A.own x) (B.own x) (append_cases x (declared t) (declared u) m)

  pair-new : (Γ D : List ℕ) (t u : Stmt) → Walked Γ D t → Walked Γ (declared t ++ D) u → (x : ℕ) → T (member x (declared t ++ declared u)) → T (member x D) → ⊥
  pair-new Γ D t u A B x m d = ⊎_elim (λ a. A.new x a d) (λ b. B.new x b (append_right x (declared t) D d)) (append_cases x (declared t) (declared u) m)

  swap_lawful : (Γ : List ℕ) → Own Γ → (l m : LValue) → PlainLValue s Any l → PlainLValue s Any m → Accepted (target_refusal forbidden s Γ l) → Accepted (target_refusal forbidden s Γ m)
      → T (not (swap_clash l m)) → T (same_type (type_of s (root l)) (type_of s (root m)))
      → Target one l × Target one m × Apart (index l) (root l ∷ root m ∷ []) × Apart (index m) (root l ∷ root m ∷ []) × ((type_of s (root l)).size ≡ (type_of s (root m)).size)
  unfolding swap_clash same_type
  swap_lawful Γ own l m kl km el em clash fits =
      let a = apart_other (root l ∷ root m ∷ []) (index l ++ index m) (share-none (root l ∷ root m ∷ []) (index l ++ index m) clash) in (
        (target_read Γ own l kl el).0,
        (target_read Γ own m km em).0,
        apart_first (index l) (index m) (root l ∷ root m ∷ []) a,
        apart_second (index l) (index m) (root l ∷ root m ∷ []) a,
        eqb→eq (type_of s (root l)).size (type_of s (root m)).size (and_right (eqb (type_of s (root l)).secrecy (type_of s (root m)).secrecy) (eqb (type_of s (root l)).size (type_of s (root m)).size) fits),
      )

  swap_scoped : (Γ : List ℕ) → Own Γ → (l m : LValue) → PlainLValue s Any l → PlainLValue s Any m → Accepted (target_refusal forbidden s Γ l) → Accepted (target_refusal forbidden s Γ m)
      → (x : ℕ) → T (member x (root l ∷ root m ∷ [])) → T (member x Γ)
  swap_scoped Γ own l m kl km el em x h = ⊎_elim (λ i. rw i (target_read Γ own l kl el).1) (λ i. rw (member-one x (root m) i) (target_read Γ own m km em).1) (member-cases x (root l) (root m ∷ []) h)

  -- The names xs come into scope over t.
  opened : (Γ D xs : List ℕ) → Own Γ → ((x : ℕ) → T (member x xs) → T (declarable q D x)) → Own (xs ++ Γ)
  opened Γ D xs own new x m = ⊎_elim (λ a. let r = declarable-read D x (new x a) in (omega (arith, r.0), r.1)) (own x) (append_cases x xs Γ m)

  walked : (t : Stmt) (Γ D : List ℕ) → Own Γ → PlainStmt s Any t → Accepted (stmt_refusal forbidden s p Γ D t) → Walked Γ D t
  unfolding stmt_refusal Lawful PlainStmt outward declared
  walked (empty n) Γ D own k e = simple Γ D (empty n) tt (λ x m. absurd m) (λ x m. member-none x m)
  walked (update n o l v) Γ D own k e =
      let a = then_both (target_refusal forbidden s Γ l) _ e in
      let b = then_both (expr_refusal forbidden s Γ v) _ a.1 in
      let c = then_both (given 10 n (secret s v && not (secret_root s l))) _ b.1 in
      let f = apart_name (root l) (variables v ++ index l) (given-passed 11 n (member (root l) (variables v ++ index l)) (lit< tt) c.1) in
      let r = target_read Γ own l k.0 a.0 in
      simple Γ D (update n o l v)
      (r.0, expr_read Γ own v k.1 b.0, apart_second (variables v) (index l) (root l ∷ []) f, apart_first (variables v) (index l) (root l ∷ []) f)
      (λ x m. rw (member-one x (root l) m) r.1) (λ x m. member-none x m)
  walked (swap n l m) Γ D own k e =
      let a = then_both (target_refusal forbidden s Γ l) _ e in
      let b = then_both (target_refusal forbidden s Γ m) _ a.1 in
      let c = then_both (given 11 n (swap_clash l m)) _ b.1 in
      simple Γ D (swap n l m)
      (swap_lawful Γ own l m k.0 k.1 a.0 b.0 (given-passed 11 n (swap_clash l m) (lit< tt) c.0) (given_holds 12 n (same_type (type_of s (root l)) (type_of s (root m))) (lit< tt) c.1))
      (swap_scoped Γ own l m k.0 k.1 a.0 b.0) (λ x m. member-none x m)
  walked (conditional_swap n v l m) Γ D own k e =
      let z = then_both (expr_refusal forbidden s Γ v) _ e in
      let a = then_both (target_refusal forbidden s Γ l) _ z.1 in
      let b = then_both (target_refusal forbidden s Γ m) _ a.1 in
      let y = then_both (given 10 n (secret s v && not (secret_root s l && secret_root s m))) _ b.1 in
      let c = then_both (given 11 n (swap_clash l m || share (root l ∷ root m ∷ []) (variables v))) _ y.1 in
      let t = given-passed 11 n (swap_clash l m || share (root l ∷ root m ∷ []) (variables v)) (lit< tt) c.0 in
      let w = swap_lawful Γ own l m k.1 k.2 a.0 b.0 (nor_left (swap_clash l m) (share (root l ∷ root m ∷ []) (variables v)) t)
      (given_holds 12 n (same_type (type_of s (root l)) (type_of s (root m))) (lit< tt) c.1) in
      simple Γ D (conditional_swap n v l m) (
        expr_read Γ own v k.0 z.0,
        apart_other (root l ∷ root m ∷ []) (variables v) (share-none (root l ∷ root m ∷ []) (variables v) (nor_right (swap_clash l m) (share (root l ∷ root m ∷ []) (variables v)) t)),
        w.0,
        w.1,
        w.2,
        w.3,
        w.4,
      ) (swap_scoped Γ own l m k.1 k.2 a.0 b.0) (λ x m. member-none x m)
  walked (branch n v t u) Γ D own k e =
      let a = then_both (expr_refusal forbidden s Γ v) _ e in
      let b = then_both (stmt_refusal forbidden s p Γ D t) _ a.1 in
      let c = then_both (stmt_refusal forbidden s p Γ (declared t ++ D) u) _ b.1 in
      let f = then_rest (given 10 n (secret s v)) (given 11 n (share (variables v) (changed t ++ changed u))) c.1 in
      let A = walked t Γ D own k.1 b.0 in
      let B = walked u Γ (declared t ++ D) own k.2 c.0 in
      record {
        lawful = (expr_read Γ own v k.0 a.0, share-none (variables v) (changed t ++ changed u) (given-passed 11 n (share (variables v) (changed t ++ changed u)) (lit< tt) f), A.lawful, B.lawful);
        scoped = pair-scoped Γ D t u A B;
        own = pair-own Γ D t u A B;
        new = pair-new Γ D t u A B;
      }
  walked (loop n x a b t) Γ D own k e =
      let c = then_both (expr_refusal forbidden s Γ a) _ e in
      let d = then_both (expr_refusal forbidden s Γ b) _ c.1 in
      let f = then_both (given 7 n (not (declarable q D x))) _ d.1 in
      let g = then_both (given 9 n (not (is_counter (type_of s x)))) _ f.1 in
      let i = then_both (stmt_refusal forbidden s p (x ∷ Γ) (x ∷ D) t) _ g.1 in
      let j = then_rest (given 10 n (secret s a || secret s b)) (given 11 n (share (variables a ++ variables b) (changed t))) i.1 in
      let new = given_holds 7 n (declarable q D x) (lit< tt) f.0 in
      let counter = given_holds 9 n (is_counter (type_of s x)) (lit< tt) g.0 in
      let r = declarable-read D x new in
      let apart = share-none (variables a ++ variables b) (changed t) (given-passed 11 n (share (variables a ++ variables b) (changed t)) (lit< tt) j) in
      let A = walked t (x ∷ Γ) (x ∷ D) (opened Γ D (x ∷ []) own (λ y m. rw (member-one y x m) new)) k.2 i.0 in
      record {
        lawful = (
          (other-kind x 1 counter (lit< tt), other-kind x 2 counter (lit< tt), (omega (arith, r.0)), r.1),
          words x r.1 counter,
          expr_read Γ own a k.0 c.0,
          expr_read Γ own b k.1 d.0,
          apart_first (variables a) (variables b) (changed t) apart,
          apart_second (variables a) (variables b) (changed t) apart,
          (λ y m h. A.new y h (rw (member-one y x m) (member-here x D))),
          A.lawful,
        );
        scoped = λ y m. ⊎_elim (λ i. absurd (T_not (eqb y x) (and_right (outward y t) (not (eqb y x)) m) (rw i (eqb_refl x)))) (λ h. h) (member-cases y x Γ (A.scoped y (and_left (outward y t) (not (eqb y x)) m)));
        own = λ y m. ⊎_elim (λ i. rw i (r.0, r.1)) (A.own y) (member-cases y x (declared t) m);
        new = λ y m d. ⊎_elim (λ i. r.2 (rw i at d)) (λ h. A.new y h (member-there y x D d)) (member-cases y x (declared t) m);
      }
  walked (call n d c ls) Γ D own k e =
      let a = then_both (arguments_refusal forbidden s Γ ls) _ e in
      let b = then_both (given 11 n (repeats (roots ls) || share (roots ls) (indices ls))) _ a.1 in
      simple Γ D (call n d c ls)
      (call_lawful Γ own n c ls k a.0 (given-passed 11 n (repeats (roots ls) || share (roots ls) (indices ls)) (lit< tt) b.0) (given_holds 12 n (call_fits s p c ls) (lit< tt) b.1))
      (arguments-rooted Γ own ls k a.0) (λ x m. member-none x m)
  walked (block n xs t) Γ D own k e =
      let a = then_both (given 7 n (not (every (declarable q D) xs))) _ e in
      let b = then_both (given 9 n (not (every (λ x. not (is_counter (type_of s x))) xs))) _ a.1 in
      let new = every-each (declarable q D) xs (given_holds 7 n (every (declarable q D) xs) (lit< tt) a.0) in
      let A = walked t (xs ++ Γ) (xs ++ D) (opened Γ D xs own new) k b.1 in
      record {
        lawful = ((λ y m h. A.new y h (append_left y xs D m)), A.lawful);
        scoped = λ y m. ⊎_elim (λ i. absurd (T_not (member y xs) (and_right (outward y t) (not (member y xs)) m) i)) (λ h. h) (append_cases y xs Γ (A.scoped y (and_left (outward y t) (not (member y xs)) m)));
        own = λ y m. ⊎_elim (λ i. let r = declarable-read D y (new y i) in (r.0, r.1)) (A.own y) (append_cases y xs (declared t) m);
        new = λ y m d. ⊎_elim (λ i. (declarable-read D y (new y i)).2 d) (λ h. A.new y h (append_right y xs D d)) (append_cases y xs (declared t) m);
      }
  walked nothing Γ D own k e = simple Γ D nothing tt (λ x m. absurd m) (λ x m. member-none x m)
  walked (list t u) Γ D own k e =
      let b = then_both (stmt_refusal forbidden s p Γ D t) (stmt_refusal forbidden s p Γ (declared t ++ D) u) e in
      let A = walked t Γ D own k.0 b.0 in
      let B = walked u Γ (declared t ++ D) own k.1 b.1 in
      record {
        lawful = (A.lawful, B.lawful);
        scoped = pair-scoped Γ D t u A B;
        own = pair-own Γ D t u A B;
        new = pair-new Γ D t u A B;
      }

  pub body_lawful : (t : Stmt) → PlainStmt s Any t → q.parameters ≤ q.count → Accepted (body_refusal forbidden s p t) → LawfulBody s q t
  unfolding body_refusal
  body_lawful t k few e =
      let A = walked t (range q.first q.parameters) [] (λ x m. let r = range_inside q.first q.parameters x m in (r.0, omega (arith, r.1))) k
      (then_first (stmt_refusal forbidden s p (range q.first q.parameters) [] t) (undeclared_refusal q t) e) in
      record { lawful = A.lawful; declares = A.own; changes = λ x m. range_inside q.first q.parameters x (A.scoped x m) }
