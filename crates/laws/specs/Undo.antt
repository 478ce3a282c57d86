-- Every lawful statement is taken back by the same statement in the other direction.
-- One recursion over the tree; each form is one law of its command, with what the static rules say of its readings.
use Prim.Native.Nat.{ℕ, zero, suc, ◌+◌, ◌^◌, ◌≤◌, ◌<◌}
use mathlib.Core.List.{List, [], ◌∷◌, ◌++◌}
use Rattle.std.specs.Prelude.{◌≡◌, refl, not, ◌||◌, length, get_or, T, eqb}
use Rattle.std.proofs.Common.{sym, ◌∙◌, ⊎_elim, arith, lt_of_lt_of_le, pow_mono, pow_pos}
use Rattle.std.proofs.Math.Logic.{dite}
use Rattle.std.proofs.Math.Decide.{ℕ_discrete, dec_lt}
use Rattle.std.proofs.Math.ListN.{get_or-eq_default}
use Rattle.std.proofs.Math.Dec.{not_T}
use Rattle.rules.specs.Words.{Direction, forward, inverse, opposite, turned, Update, going}
use Rattle.rules.specs.Image.{Parts, procedure_of, is_array}
use Rattle.rules.specs.Tree.{member, Expr, LValue, whole, Stmt, empty, update, swap, conditional_swap, branch, loop, call, block, nothing, list, variables, root, index, roots, indices, changed, declared}
use Rattle.rules.specs.Walk.{type_of}
use Rattle.rules.specs.Machine.{Slot, no_slot, Env, Command, Calls, found, eval, address, arguments, done, reading, both, in_order, exchange, counted, block_end, first_bound, exec}
use Rattle.laws.specs.Verdicts.{both_hold, or_left, or_right, decided, unequal_test, member-here, member-there, append_left, append_right}
use Rattle.numbers.specs.Laws.{changed_by-fits}
use Rattle.numbers.proofs.Back.{going-back}
use Rattle.laws.specs.Cells.{In, in_list}
use Rattle.laws.specs.Spec.{Cells, Inv, Spec, spec_done, spec_both, spec_step, spec_read, spec_read_two, spec_choose, spec_wider, spec_change, spec_exchange}
use Rattle.laws.specs.SpecLoop.{spec_block, spec_counted}
use Rattle.laws.specs.Readings.{Readable, Target, target_indexed, Untouched, eval-stable, address-stable, arguments-stable, address-inside, eval-fits, AllLent, arguments-lent}
use Rattle.laws.specs.Rules.{outward, outward-changed, Apart, CallLawful, Lawful}
use Rattle.laws.specs.Cleared.{Named, block_end-done, block_end-run, named-decided}

turned-opposite : (d k : Direction) → turned (opposite d) k ≡ opposite (turned d k)
unfolding turned opposite
turned-opposite forward k = refl
turned-opposite inverse forward = refl
turned-opposite inverse inverse = refl

root-member : (ls : List LValue) (j : ℕ) → j < length ls → T (member (root (get_or ls j (whole 0 0))) (roots ls))
unfolding roots
root-member [] j h = absurd (omega arith)
root-member (l ∷ ls) zero h = member-here (root l) (roots ls)
root-member (l ∷ ls) (suc j) h = member-there (root (get_or ls j (whole 0 0))) (root l) (roots ls) (root-member ls j (omega arith))

-- Over N cells of these sizes, and the types of the image's variables.
module _ (N : ℕ) (sizes : ℕ → ℕ) (s : Parts) where
  -- Arguments of procedure q, none of whose cells is in Z.
  pub record Passed (q : ℕ) (xs : List Slot) (Z : Cells) : Type 0 where
    pub count : length xs ≡ (procedure_of s.procedures q).parameters
    pub apart : (j k i : ℕ) → In (get_or xs j no_slot) i → In (get_or xs k no_slot) i → j ≡ k
    pub width : (j i : ℕ) → In (get_or xs j no_slot) i → (sizes i ≡ (get_or xs j no_slot).width) × ((get_or xs j no_slot).width ≡ (type_of s ((procedure_of s.procedures q).first + j)).size)
    pub bound : (j i : ℕ) → In (get_or xs j no_slot) i → i < N
    pub short : (j : ℕ) → (get_or xs j no_slot).cells < 2 ^ 64
    pub free : (j i : ℕ) → In (get_or xs j no_slot) i → Z i → ⊥
    pub one : (j : ℕ) → j < length xs → T (not (is_array (type_of s ((procedure_of s.procedures q).first + j)))) → (get_or xs j no_slot).cells ≡ 1

  -- The names of a procedure: `single` have one cell, and none has a cell in K, the locals of the procedures below.
  pub record Housed (single : ℕ → Type 0) (ρ : Env) (K : Cells) : Type 0 where
    pub apart : (x y i : ℕ) → In (ρ x) i → In (ρ y) i → x ≡ y
    pub width : (x i : ℕ) → In (ρ x) i → (sizes i ≡ (ρ x).width) × ((ρ x).width ≡ (type_of s x).size)
    pub bound : (x i : ℕ) → In (ρ x) i → i < N
    pub short : (x : ℕ) → (ρ x).cells < 2 ^ 64
    pub one : (x : ℕ) → single x → (ρ x).cells ≡ 1
    pub below : (x i : ℕ) → In (ρ x) i → K i → ⊥

  -- Each call is taken back, and changes the cells of its arguments alone.
  abbrev pub CallsUndone : Calls → Cells → Type 1
  CallsUndone calls K = (q : ℕ) (d : Direction) (xs : List Slot) (Z : Cells) → Passed q xs Z → ((i : ℕ) → K i → Z i)
      → Spec N sizes (calls q d xs) (calls q (opposite d) xs) Z (λ i. (j : ℕ) × In (get_or xs j no_slot) i)

  module _ (words : (i : ℕ) → i < N → (0 < sizes i) × (sizes i ≤ 64))
      (single : ℕ → Type 0) (calls : Calls) (K : Cells) (undone : CallsUndone calls K) (ρ : Env) (E : Housed single ρ K) where
    -- The cells that a statement may leave changed.
    abbrev Touched : Stmt → Cells
    Touched t = Named ρ (λ x. outward x t)

    untouched : (xs : List ℕ) (t : Stmt) → Apart xs (changed t) → Untouched single ρ E.one (Touched t) xs
    untouched xs t h x m i a w = let q : w.0 ≡ x = E.apart w.0 x i w.2 a in h x m (rw q at (outward-changed t w.0 w.1))

    low : (Z : Cells) (σ : List ℕ) → Inv N sizes Z σ → (i : ℕ) → get_or σ i 0 < 2 ^ 64
    low Z σ I i = dite (dec_lt i N) (λ l. lt_of_lt_of_le (I.fit i l) (pow_mono (words i l).1))
        (λ k. let h : length σ ≤ i = omega (arith, I.count) in rw (get_or-eq_default σ 0 h) (pow_pos 64))

    -- Z holds what the statement declares, and nothing that it leaves changed.
    abbrev Zone : Stmt → Cells → Type 0
    Zone t Z = ((x : ℕ) → T (member x (declared t)) → (i : ℕ) → In (ρ x) i → Z i) × ((x : ℕ) → T (outward x t) → (i : ℕ) → In (ρ x) i → Z i → ⊥)

    abbrev Undone : Stmt → Direction → Cells → Type 0
    Undone t d Z = Spec N sizes (exec calls d ρ t) (exec calls (opposite d) ρ t) Z (Touched t)

    update_undone : (n : ℕ) (o : Update) (l : LValue) (e : Expr) → Lawful s single (update n o l e) → (Z : Cells) → Zone (update n o l e) Z → (d : Direction) → Undone (update n o l e) d Z
    unfolding exec Lawful outward changed
    update_undone n o l e k Z z d =
        spec_step N sizes n _ _ Z W (spec_read N sizes (λ σ. address ρ σ l) _ _ Z W
        (address-stable single ρ E.one W l (target_indexed single l k.0) (untouched (index l) (update n o l e) k.2))
        (λ i σ t I a. spec_read N sizes (λ σ. eval ρ σ e) _ _ Z W
        (eval-stable single ρ E.one W e k.1 (untouched (variables e) (update n o l e) k.3))
        (λ v σ' t' I' a'.
        let m : In (ρ (root l)) i = address-inside single ρ E.one σ l k.0 i t a in
        let q : sizes i ≡ (ρ (root l)).width = (E.width (root l) i m).0 in
        let p : 0 < (ρ (root l)).width = rw q at (words i (E.bound (root l) i m)).0 in
        spec_change N sizes _ _ i Z W (E.bound (root l) i m) (root l, member-here (root l) [], m) (z.1 (root l) (member-here (root l) []) i m)
        (λ x h. rw q (changed_by-fits (going d o) (ρ (root l)).width v x p (rw q at h)))
        (λ x h. going-back d o (ρ (root l)).width v x p (rw q at h)))))
      where
        W : Cells
        W = Touched (update n o l e)

    -- Two targets, once their addresses are known.
    exchange-undone : (t : Stmt) (l m : LValue) (condition i j : ℕ) (σ u σ' u' : List ℕ) → Target single l → Target single m → (type_of s (root l)).size ≡ (type_of s (root m)).size
        → T (outward (root l) t) → T (outward (root m) t) → (Z : Cells) → Zone t Z → address ρ σ l ≡ found i u → address ρ σ' m ≡ found j u'
        → Spec N sizes (exchange condition i j) (exchange condition i j) Z (Touched t)
    exchange-undone t l m condition i j σ u σ' u' kl km same here there Z z a a' =
        let mi : In (ρ (root l)) i = address-inside single ρ E.one σ l kl i u a in
        let mj : In (ρ (root m)) j = address-inside single ρ E.one σ' m km j u' a' in
        spec_exchange N sizes condition i j Z (Touched t) (E.bound (root l) i mi) (E.bound (root m) j mj) (root l, here, mi) (root m, there, mj)
        (z.1 (root l) here i mi) (z.1 (root m) there j mj)
        ((E.width (root l) i mi).0 ∙ (E.width (root l) i mi).1 ∙ same ∙ sym (E.width (root m) j mj).1 ∙ sym (E.width (root m) j mj).0)

    swap_undone : (n : ℕ) (l m : LValue) → Lawful s single (swap n l m) → (Z : Cells) → Zone (swap n l m) Z → (d : Direction) → Undone (swap n l m) d Z
    unfolding exec Lawful outward changed
    swap_undone n l m k Z z d =
        spec_step N sizes n _ _ Z W (spec_read N sizes (λ σ. address ρ σ l) _ _ Z W
        (address-stable single ρ E.one W l (target_indexed single l k.0) (untouched (index l) (swap n l m) k.2))
        (λ i σ t I a. spec_read N sizes (λ σ. address ρ σ m) _ _ Z W
        (address-stable single ρ E.one W m (target_indexed single m k.1) (untouched (index m) (swap n l m) k.3))
        (λ j σ' t' I' a'. exchange-undone (swap n l m) l m 1 i j σ t σ' t' k.0 k.1 k.4
        (member-here (root l) (root m ∷ [])) (member-there (root m) (root l) (root m ∷ []) (member-here (root m) [])) Z z a a')))
      where
        W : Cells
        W = Touched (swap n l m)

    conditional_undone : (n : ℕ) (e : Expr) (l m : LValue) → Lawful s single (conditional_swap n e l m) → (Z : Cells) → Zone (conditional_swap n e l m) Z → (d : Direction)
        → Undone (conditional_swap n e l m) d Z
    unfolding exec Lawful outward changed
    conditional_undone n e l m k Z z d =
        spec_step N sizes n _ _ Z W (spec_read N sizes (λ σ. eval ρ σ e) _ _ Z W
        (eval-stable single ρ E.one W e k.0 (untouched (variables e) (conditional_swap n e l m) k.1))
        (λ v τ u J b. spec_read N sizes (λ σ. address ρ σ l) _ _ Z W
        (address-stable single ρ E.one W l (target_indexed single l k.2) (untouched (index l) (conditional_swap n e l m) k.4))
        (λ i σ t I a. spec_read N sizes (λ σ. address ρ σ m) _ _ Z W
        (address-stable single ρ E.one W m (target_indexed single m k.3) (untouched (index m) (conditional_swap n e l m) k.5))
        (λ j σ' t' I' a'. exchange-undone (conditional_swap n e l m) l m v i j σ t σ' t' k.2 k.3 k.6
        (member-here (root l) (root m ∷ [])) (member-there (root m) (root l) (root m ∷ []) (member-here (root m) [])) Z z a a'))))
      where
        W : Cells
        W = Touched (conditional_swap n e l m)

    -- ---- calls

    -- Where an argument's cells are.
    in_root : (σ : List ℕ) (ls : List LValue) (xs : List Slot) → AllLent single ρ E.one σ ls xs → (j i : ℕ) → In (get_or xs j no_slot) i
        → (j < length ls) × In (ρ (root (get_or ls j (whole 0 0)))) i
    in_root σ ls xs A j i h = let l : j < length ls = rw (← A.count) (in_list xs j i h) in (l, (A.at j l).inner i h)

    short_at : (σ : List ℕ) (ls : List LValue) (xs : List Slot) → AllLent single ρ E.one σ ls xs → (j : ℕ) → (get_or xs j no_slot).cells < 2 ^ 64
    short_at σ ls xs A j = dite (dec_lt j (length ls)) (λ l. (A.at j l).short E.short) (λ k. let h : length xs ≤ j = omega (arith, A.count) in rw (get_or-eq_default xs no_slot h) (pow_pos 64))

    passed : (σ : List ℕ) (q : ℕ) (ls : List LValue) (xs : List Slot) (Z : Cells) → CallLawful s single q ls → AllLent single ρ E.one σ ls xs
        → ((x : ℕ) → T (member x (roots ls)) → (i : ℕ) → In (ρ x) i → Z i → ⊥) → Passed q xs Z
    passed σ q ls xs Z o A z = record {
      count = A.count ∙ o.count;
      apart = λ j k i hj hk. let rj = in_root σ ls xs A j i hj in let rk = in_root σ ls xs A k i hk in
          o.once j k rj.0 rk.0 (E.apart _ _ i rj.1 rk.1);
      width = λ j i h. let r = in_root σ ls xs A j i h in
          ((E.width _ i r.1).0 ∙ sym (A.at j r.0).width, (A.at j r.0).width ∙ (E.width _ i r.1).1 ∙ o.size j r.0);
      bound = λ j i h. let r = in_root σ ls xs A j i h in E.bound _ i r.1;
      free = λ j i h. let r = in_root σ ls xs A j i h in z _ (root-member ls j r.0) i r.1;
      short = λ j. short_at σ ls xs A j;
      one = λ j h c. let l : j < length ls = rw (← A.count) h in (A.at j l).one (o.target j l c);
    }

    call_undone : (n : ℕ) (k : Direction) (q : ℕ) (ls : List LValue) → Lawful s single (call n k q ls) → (Z : Cells) → ((i : ℕ) → K i → Z i) → Zone (call n k q ls) Z → (d : Direction)
        → Undone (call n k q ls) d Z
    unfolding exec Lawful outward changed
    call_undone n k q ls o Z KZ z d =
        spec_step N sizes n _ _ Z W (spec_read N sizes (λ σ. arguments ρ σ ls) _ _ Z W
        (arguments-stable single ρ E.one W ls o.indexed (untouched (indices ls) (call n k q ls) o.apart))
        (λ xs σ t I a.
        let A = arguments-lent single ρ E.one σ ls xs t a in
        rw turned-opposite (spec_wider N sizes _ _ Z _ W (λ i m. let r = in_root σ ls xs A m.0 i m.1 in (root (get_or ls m.0 (whole 0 0)), root-member ls m.0 r.0, r.1))
        (undone q (turned d k) xs Z (passed σ q ls xs Z o A z.1) KZ))))
      where
        W : Cells
        W = Touched (call n k q ls)

    -- ---- blocks and loops

    block-undone : (n : ℕ) (xs : List ℕ) (t : Stmt) (f g : Command) (Z : Cells) → ((i : ℕ) → K i → Z i) → Lawful s single (block n xs t) → Zone (block n xs t) Z
        → ((Z' : Cells) → ((i : ℕ) → K i → Z' i) → Zone t Z' → Spec N sizes f g Z' (Touched t))
        → Spec N sizes (both f (block_end n ρ xs)) (both g (block_end n ρ xs)) Z (Touched (block n xs t))
    unfolding Lawful outward declared
    block-undone n xs t f g Z KZ o z F =
        spec_block N sizes f g (block_end n ρ xs) Z Z' (Touched (block n xs t)) (Touched t) D (block_end-done n ρ xs) (block_end-run n ρ xs) (named-decided ρ xs)
        (λ i h. h.0) (λ i h k. (h, k)) (λ i h. z.0 h.0 (append_left h.0 xs (declared t) h.1) i h.2)
        (λ i w k. (w.0, both_hold (outward w.0 t) (not (member w.0 xs)) w.1 (not_T (member w.0 xs) (λ m. k (w.0, m, w.2))), w.2))
        (F Z' (λ i h. (KZ i h, λ d. E.below d.0 i d.2 h)) (
          (λ x m i a. (z.0 x (append_right x xs (declared t) m) i a, λ d. o.0 d.0 d.1 (rw (← E.apart d.0 x i d.2 a) at m))),
          (λ x m i a h. h.1 (own x m i a h.0)),
        ))
      where
        D : Cells
        D = Named ρ (λ x. member x xs)

        Z' : Cells
        Z' i = Z i × (D i → ⊥)

        own : (x : ℕ) → T (outward x t) → (i : ℕ) → In (ρ x) i → Z i → D i
        own x m i a h = ⊎_elim (λ y. (x, y, a)) (λ k. absurd (z.1 x (both_hold (outward x t) (not (member x xs)) m k) i a h)) (decided (member x xs))

    loop_undone : (n x : ℕ) (a b : Expr) (t : Stmt) (e1 e2 : Expr) (f g : Command) (Z : Cells) → ((i : ℕ) → K i → Z i) → Lawful s single (loop n x a b t) → Zone (loop n x a b t) Z
        → Readable single e1 → Readable single e2 → Apart (variables e1) (changed t) → Apart (variables e2) (changed t)
        → ((Z' : Cells) → ((i : ℕ) → K i → Z' i) → Zone t Z' → Spec N sizes f g Z' (Touched t))
        → Spec N sizes (reading (λ σ. eval ρ σ e1) (λ v. reading (λ σ. eval ρ σ e2) (λ w. counted n (ρ x).base v w f)))
        (reading (λ σ. eval ρ σ e2) (λ w. reading (λ σ. eval ρ σ e1) (λ v. counted n (ρ x).base w v g))) Z (Touched (loop n x a b t))
    unfolding Lawful outward declared changed
    loop_undone n x a b t e1 e2 f g Z KZ o z k1 k2 h1 h2 F =
        spec_read_two N sizes (λ σ. eval ρ σ e1) (λ σ. eval ρ σ e2) _ _ Z W
        (eval-stable single ρ E.one W e1 k1 (untouched (variables e1) (loop n x a b t) h1))
        (eval-stable single ρ E.one W e2 k2 (untouched (variables e2) (loop n x a b t) h2))
        (λ v w σ u u' I p q. spec_counted N sizes n i v w f g Z Z' W (Touched t) (E.bound x i here) (z.0 x (member-here x (declared t)) i here) (λ h. h.1 refl)
        (λ j h. h.0) (λ j h k. (h, k))
        (λ j c k. (c.0, both_hold (outward c.0 t) (not (eqb c.0 x)) c.1 (unequal_test c.0 x (λ e. k (only j (rw e at c.2)))), c.2))
        (rw ((E.width x i here).0 ∙ (E.width x i here).1 ∙ o.1) (eval-fits single ρ E.one σ E.short (low Z σ I) e1 v u p))
        (F Z' (λ j h. (KZ j h, λ e. E.below x i here (rw e at h))) (
          (λ y m j c. (z.0 y (member-there y x (declared t) m) j c, λ e. o.6 x (member-here x []) (rw (E.apart y x i (rw e at c) here) at m))),
          (λ y m j c h. dite (ℕ_discrete y x) (λ e. h.1 (only j (rw e at c)))
              (λ k. z.1 y (both_hold (outward y t) (not (eqb y x)) m (unequal_test y x k)) j c h.0)),
        )))
      where
        i : ℕ
        i = (ρ x).base

        W : Cells
        W = Touched (loop n x a b t)

        Z' : Cells
        Z' j = Z j × (j ≡ i → ⊥)

        here : In (ρ x) i
        here = let l = E.one x o.0 in omega arith

        only : (j : ℕ) → In (ρ x) j → j ≡ i
        only j m = let l = E.one x o.0 in omega arith

    -- ---- all statements

    first_zone : (t u : Stmt) (Z : Cells) → ((x : ℕ) → T (member x (declared t ++ declared u)) → (i : ℕ) → In (ρ x) i → Z i)
        → ((x : ℕ) → T (outward x t || outward x u) → (i : ℕ) → In (ρ x) i → Z i → ⊥) → Zone t Z
    first_zone t u Z in-Z out-Z = ((λ x h. in-Z x (append_left x (declared t) (declared u) h)), (λ x h. out-Z x (or_left (outward x t) (outward x u) h)))

    second_zone : (t u : Stmt) (Z : Cells) → ((x : ℕ) → T (member x (declared t ++ declared u)) → (i : ℕ) → In (ρ x) i → Z i)
        → ((x : ℕ) → T (outward x t || outward x u) → (i : ℕ) → In (ρ x) i → Z i → ⊥) → Zone u Z
    second_zone t u Z in-Z out-Z = ((λ x h. in-Z x (append_right x (declared t) (declared u) h)), (λ x h. out-Z x (or_right (outward x t) (outward x u) h)))

    abbrev Either : Stmt → Stmt → Cells
    Either t u = Named ρ (λ x. outward x t || outward x u)

    first_wider : (t u : Stmt) (f g : Command) (Z : Cells) → Spec N sizes f g Z (Touched t) → Spec N sizes f g Z (Either t u)
    first_wider t u f g Z = spec_wider N sizes f g Z (Touched t) (Either t u) (λ i w. (w.0, or_left (outward w.0 t) (outward w.0 u) w.1, w.2))

    second_wider : (t u : Stmt) (f g : Command) (Z : Cells) → Spec N sizes f g Z (Touched u) → Spec N sizes f g Z (Either t u)
    second_wider t u f g Z = spec_wider N sizes f g Z (Touched u) (Either t u) (λ i w. (w.0, or_right (outward w.0 t) (outward w.0 u) w.1, w.2))

    pub exec-undone : (t : Stmt) → Lawful s single t → (Z : Cells) → ((i : ℕ) → K i → Z i) → Zone t Z → (d : Direction) → Undone t d Z
    unfolding exec Lawful outward declared changed in_order first_bound opposite
    exec-undone (empty n) o Z KZ z d = spec_step N sizes n done done Z (Touched (empty n)) (spec_done N sizes Z (Touched (empty n)))
    exec-undone (update n p l e) o Z KZ z d = update_undone n p l e o Z z d
    exec-undone (swap n l m) o Z KZ z d = swap_undone n l m o Z z d
    exec-undone (conditional_swap n e l m) o Z KZ z d = conditional_undone n e l m o Z z d
    exec-undone (branch n e t u) o Z KZ z d =
        let W : Cells = Touched (branch n e t u) in
        spec_step N sizes n _ _ Z W (spec_read N sizes (λ σ. eval ρ σ e) _ _ Z W
        (eval-stable single ρ E.one W e o.0 (untouched (variables e) (branch n e t u) o.1))
        (λ v σ r I a. spec_choose N sizes (eqb v 0) _ _ _ _ Z W
        (λ _. second_wider t u _ _ Z (exec-undone u o.3 Z KZ (second_zone t u Z z.0 z.1) d))
        (λ _. first_wider t u _ _ Z (exec-undone t o.2 Z KZ (first_zone t u Z z.0 z.1) d))))
    exec-undone (loop n x a b t) o Z KZ z forward =
        spec_step N sizes n _ _ Z (Touched (loop n x a b t)) (loop_undone n x a b t a b _ _ Z KZ o z o.2 o.3 o.4 o.5 (λ Z' KZ' z'. exec-undone t o.7 Z' KZ' z' forward))
    exec-undone (loop n x a b t) o Z KZ z inverse =
        spec_step N sizes n _ _ Z (Touched (loop n x a b t)) (loop_undone n x a b t b a _ _ Z KZ o z o.3 o.2 o.5 o.4 (λ Z' KZ' z'. exec-undone t o.7 Z' KZ' z' inverse))
    exec-undone (call n k q ls) o Z KZ z d = call_undone n k q ls o Z KZ z d
    exec-undone (block n xs t) o Z KZ z d =
        spec_step N sizes n _ _ Z (Touched (block n xs t)) (block-undone n xs t _ _ Z KZ o z (λ Z' KZ' z'. exec-undone t o.1 Z' KZ' z' d))
    exec-undone nothing o Z KZ z d = spec_done N sizes Z (Touched nothing)
    exec-undone (list t u) o Z KZ z forward =
        spec_both N sizes _ _ _ _ Z (Either t u)
        (first_wider t u _ _ Z (exec-undone t o.0 Z KZ (first_zone t u Z z.0 z.1) forward))
        (second_wider t u _ _ Z (exec-undone u o.1 Z KZ (second_zone t u Z z.0 z.1) forward))
    exec-undone (list t u) o Z KZ z inverse =
        spec_both N sizes _ _ _ _ Z (Either t u)
        (second_wider t u _ _ Z (exec-undone u o.1 Z KZ (second_zone t u Z z.0 z.1) inverse))
        (first_wider t u _ _ Z (exec-undone t o.0 Z KZ (first_zone t u Z z.0 z.1) inverse))
