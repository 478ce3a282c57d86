-- What is read: it does not change with cells that it does not name, an address lies in the cells of its root, a value is a word,
-- and what an argument lends lies in the cells of its root.
use Prim.Native.Nat.{ℕ, zero, suc, ◌+◌, ◌^◌, ◌<◌}
use mathlib.Core.List.{List, [], ◌∷◌}
use Rattle.std.specs.Prelude.{◌≡◌, Bool, not, cond, ◌&&◌, get_or, T, eqb, ltb}
use Rattle.std.proofs.Math.Path.{refl, ap}
use Rattle.std.proofs.Math.Bool.{true, false}
use native.Mathlib.Omega.{arith}
use Rattle.std.proofs.Common.{mod-lt, pow_pos, ltb→lt}
use Rattle.std.proofs.Math.ListN.{length}
use Rattle.std.proofs.Math.Dec.{lit<}
use Rattle.rules.specs.Words.{Binary, operate, operate1, divides}
use Rattle.rules.specs.Tree.{member, Expr, number, constant, variable, element, size, binary, unary, LValue, whole, entry, variables, root, index, indices}
use Rattle.rules.specs.Machine.{Slot, no_slot, Env, Found, found, fault, after, and_then, inside, load, divided, eval, address, lent, arguments}
use Rattle.laws.specs.Verdicts.{member-here, member-there, append_left, append_right}
use Rattle.numbers.specs.Laws.{operate-fits, operate1-fits}
use Rattle.laws.specs.Cells.{In}
use Rattle.laws.specs.Commands.{found_same, fault_found}
use Rattle.laws.specs.Spec.{Cells, Agree, Stable}

-- ---- findings, one after another

pub and_then-same : {A B : Type 0} (a a' : Found A) (f f' : A → Found B) → a ≡ a' → ((v : A) → f v ≡ f' v) → and_then a f ≡ and_then a' f'
unfolding and_then
and_then-same {A} {B} a a' f f' e h = rw e (go a')
  where
    go : (r : Found A) → and_then r f ≡ and_then r f'
    go (found v t) = rw (h v)
    go (fault k n t) = refl

after-found : {A : Type 0} (t : List ℕ) (a : Found A) (w : A) (u : List ℕ) → after t a ≡ found w u → (u' : List ℕ) × (a ≡ found w u')
unfolding after
after-found t (found v r) w u e = let q : v ≡ w = cc in (r, rw q)
after-found t (fault k n r) w u e = absurd (fault_found e)

pub and_then-found : {A B : Type 0} (a : Found A) (f : A → Found B) (w : B) (t : List ℕ) → and_then a f ≡ found w t
    → (v : A) × (r : List ℕ) × (a ≡ found v r) × (u : List ℕ) × (f v ≡ found w u)
unfolding and_then
and_then-found (found v r) f w t e = let q = after-found r (f v) w t e in (v, r, refl, q.0, q.1)
and_then-found (fault k n r) f w t e = absurd (fault_found e)

pub inside_found : (n : ℕ) (x : Slot) (v i : ℕ) (t : List ℕ) → inside n x v ≡ found i t → (v < x.cells) × (x.base + v ≡ i)
unfolding inside
inside_found n x v i t e = go (ltb v x.cells) (ltb→lt v x.cells) e
  where
    go : (b : Bool) → (T b → v < x.cells) → cond b (found (x.base + v) []) (fault 24 n []) ≡ found i t → (v < x.cells) × (x.base + v ≡ i)
    go true l e = (l tt, found_same e)
    go false l e = absurd (fault_found e)

pub divided-found : (n : ℕ) (o : Binary) (v w r : ℕ) (t : List ℕ) → divided n o v w ≡ found r t → T (not (divides o && eqb w 0)) × (operate o v w ≡ r)
unfolding divided
divided-found n o v w r t e = go (divides o && eqb w 0) e
  where
    go : (b : Bool) → cond b (fault 25 n []) (found (operate o v w) []) ≡ found r t → T (not b) × (operate o v w ≡ r)
    go true e = absurd (fault_found e)
    go false e = (tt, found_same e)

-- ---- the static rules of readings: `single` are the names of one cell

module _ (single : ℕ → Type 0) where
  unfoldable pub Readable : Expr → Type 0
  Readable (number n v) = Unit {0}
  Readable (constant n x v) = Unit {0}
  Readable (variable n x) = single x
  Readable (element n u x e) = Readable e
  Readable (size n x) = Unit {0}
  Readable (binary n o a b) = Readable a × Readable b
  Readable (unary n o a) = Readable a

  -- The index of an L-value can be read; and it is one cell.
  unfoldable pub Indexed : LValue → Type 0
  Indexed (whole n x) = Unit {0}
  Indexed (entry n u x e) = Readable e

  unfoldable pub Target : LValue → Type 0
  Target (whole n x) = single x
  Target (entry n u x e) = Readable e

  pub target_indexed : (l : LValue) → Target l → Indexed l
  unfolding Target Indexed
  target_indexed (whole n x) h = tt
  target_indexed (entry n u x e) h = h

  module _ (ρ : Env) (full : (x : ℕ) → single x → (ρ x).cells ≡ 1) where
    -- ---- stable where the cells of the names are not changed
    module _ (W : Cells) where
      abbrev pub Untouched : List ℕ → Type 0
      Untouched xs = (x : ℕ) → T (member x xs) → (i : ℕ) → In (ρ x) i → W i → ⊥

      load-stable : (σ τ : List ℕ) → Agree W σ τ → (i : ℕ) → (W i → ⊥) → load τ i ≡ load σ i
      unfolding load
      load-stable σ τ h i w = rw (h i w)

      element-stable : (n : ℕ) (x : Slot) (σ τ : List ℕ) → Agree W σ τ → ((i : ℕ) → In x i → W i → ⊥) → (v : ℕ) → and_then (inside n x v) (load τ) ≡ and_then (inside n x v) (load σ)
      unfolding inside and_then
      element-stable n x σ τ h out v = go (ltb v x.cells) (ltb→lt v x.cells)
        where
          go : (b : Bool) → (T b → v < x.cells) → and_then (cond b (found (x.base + v) []) (fault 24 n [])) (load τ) ≡ and_then (cond b (found (x.base + v) []) (fault 24 n [])) (load σ)
          go true l = rw (load-stable σ τ h (x.base + v) (out (x.base + v) (let m = l tt in omega arith)))
          go false l = refl

      pub eval-stable : (e : Expr) → Readable e → Untouched (variables e) → Stable (λ σ. eval ρ σ e) W
      unfolding eval variables Readable
      eval-stable (number n v) k o σ τ h = refl
      eval-stable (constant n x v) k o σ τ h = refl
      eval-stable (variable n x) k o σ τ h = load-stable σ τ h (ρ x).base (o x (member-here x []) (ρ x).base (let f = full x k in omega arith))
      eval-stable (element n u x e) k o σ τ h = and_then-same _ _ _ _ (eval-stable e k (λ y t. o y (member-there y x (variables e) t)) σ τ h)
          (element-stable n (ρ x) σ τ h (o x (member-here x (variables e))))
      eval-stable (size n x) k o σ τ h = refl
      eval-stable (unary n op a) k o σ τ h = and_then-same _ _ _ _ (eval-stable a k o σ τ h) (λ v. refl)
      eval-stable (binary n op a b) k o σ τ h = and_then-same _ _ _ _ (eval-stable a k.0 (λ y t. o y (append_left y (variables a) (variables b) t)) σ τ h)
          (λ v. and_then-same _ _ _ _ (eval-stable b k.1 (λ y t. o y (append_right y (variables a) (variables b) t)) σ τ h) (λ w. refl))

      pub address-stable : (l : LValue) → Indexed l → Untouched (index l) → Stable (λ σ. address ρ σ l) W
      unfolding address index Indexed
      address-stable (whole n x) k o σ τ h = refl
      address-stable (entry n u x e) k o σ τ h = and_then-same _ _ _ _ (eval-stable e k o σ τ h) (λ v. refl)

      pub arguments-stable : (ls : List LValue) → ((j : ℕ) → j < length ls → Indexed (get_or ls j (whole 0 0))) → Untouched (indices ls) → Stable (λ σ. arguments ρ σ ls) W
      unfolding arguments indices
      arguments-stable [] k o σ τ h = refl
      arguments-stable (l ∷ ls) k o σ τ h = and_then-same _ _ _ _ (address-stable l (k 0 (omega arith)) (λ y t. o y (append_left y (index l) (indices ls) t)) σ τ h)
          (λ i. and_then-same _ _ _ _ (arguments-stable ls (λ j m. k (suc j) (omega arith)) (λ y t. o y (append_right y (index l) (indices ls) t)) σ τ h) (λ xs. refl))

    -- ---- in range
    module _ (σ : List ℕ) where
      pub address-inside : (l : LValue) → Target l → (i : ℕ) (t : List ℕ) → address ρ σ l ≡ found i t → In (ρ (root l)) i
      unfolding address root Target
      address-inside (whole n x) k i t e = let q : (ρ x).base ≡ i = found_same e in let f = full x k in omega arith
      address-inside (entry n u x e) k i t h =
          let b = and_then-found (eval ρ σ e) (inside n (ρ x)) i t h in
          let w = inside_found n (ρ x) b.0 i b.3 b.4 in
          omega (arith, w.0, w.1)

      pub eval-fits : (short : (x : ℕ) → (ρ x).cells < 2 ^ 64) → ((i : ℕ) → get_or σ i 0 < 2 ^ 64) → (e : Expr) (v : ℕ) (t : List ℕ) → eval ρ σ e ≡ found v t → v < 2 ^ 64
      unfolding eval load
      eval-fits short low (number n c) v t h = rw (found_same h) at (mod-lt c (pow_pos 64))
      eval-fits short low (constant n x c) v t h = rw (found_same h) at (mod-lt c (pow_pos 64))
      eval-fits short low (variable n x) v t h = rw (found_same h) at (low (ρ x).base)
      eval-fits short low (element n u x e) v t h =
          let b = and_then-found (eval ρ σ e) (λ v. and_then (inside n (ρ x) v) (load σ)) v t h in
          let d = and_then-found (inside n (ρ x) b.0) (load σ) v b.3 b.4 in
          rw (found_same d.4) at (low d.0)
      eval-fits short low (size n x) v t h = rw (found_same h) at (short x)
      eval-fits short low (unary n o a) v t h =
          let b = and_then-found (eval ρ σ a) (λ v. found (operate1 o v) []) v t h in
          rw (found_same b.4) at (operate1-fits o b.0)
      eval-fits short low (binary n o a c) v t h =
          let b = and_then-found (eval ρ σ a) (λ v. and_then (eval ρ σ c) (divided n o v)) v t h in
          let d = and_then-found (eval ρ σ c) (divided n o b.0) v b.3 b.4 in
          rw (divided-found n o b.0 d.0 v d.3 d.4).1 at (operate-fits o b.0 d.0 (eval-fits short low a b.0 b.1 b.2) (eval-fits short low c d.0 d.1 d.2))

      -- ---- what is lent lies in the cells of its root
      pub record Lent (l : LValue) (x : Slot) : Type 0 where
        pub inner : (i : ℕ) → In x i → In (ρ (root l)) i
        pub width : x.width ≡ (ρ (root l)).width
        pub hidden : x.hidden ≡ (ρ (root l)).hidden
        pub one : Target l → x.cells ≡ 1
        pub short : ((x : ℕ) → (ρ x).cells < 2 ^ 64) → x.cells < 2 ^ 64

      lent_of : (l : LValue) (i : ℕ) (t : List ℕ) → address ρ σ l ≡ found i t → Lent l (lent ρ l i)
      unfolding lent root address Target
      lent_of (whole n x) i t e = record { inner = λ j h. h; width = refl; hidden = refl; one = λ k. full x k; short = λ h. h x }
      lent_of (entry n u x e) i t h =
          let b = and_then-found (eval ρ σ e) (inside n (ρ x)) i t h in
          let w = inside_found n (ρ x) b.0 i b.3 b.4 in
          record { inner = λ j m. omega (arith, w.0, w.1); width = refl; hidden = refl; one = λ k. refl; short = λ h. lit< tt }

      pub record AllLent (ls : List LValue) (xs : List Slot) : Type 0 where
        pub count : length xs ≡ length ls
        pub at : (j : ℕ) → j < length ls → Lent (get_or ls j (whole 0 0)) (get_or xs j no_slot)

      pub arguments-lent : (ls : List LValue) (xs : List Slot) (t : List ℕ) → arguments ρ σ ls ≡ found xs t → AllLent ls xs
      unfolding arguments
      arguments-lent [] xs t e = let q : [] ≡ xs = found_same e in rw (← q) (record { count = refl; at = λ j h. absurd (omega arith) })
      arguments-lent (l ∷ ls) xs t e =
          let b = and_then-found (address ρ σ l) (λ i. and_then (arguments ρ σ ls) (λ xs. found (lent ρ l i ∷ xs) [])) xs t e in
          let d = and_then-found (arguments ρ σ ls) (λ xs. found (lent ρ l b.0 ∷ xs) []) xs b.3 b.4 in
          let A = arguments-lent ls d.0 d.1 d.2 in
          rw (← found_same d.4) (record { count = ap suc A.count; at = each l ls d.0 (lent ρ l b.0) (lent_of l b.0 b.1 b.2) A.at })
        where
          each : (l : LValue) (ls : List LValue) (xs : List Slot) (x : Slot) → Lent l x → ((j : ℕ) → j < length ls → Lent (get_or ls j (whole 0 0)) (get_or xs j no_slot))
              → (j : ℕ) → j < suc (length ls) → Lent (get_or (l ∷ ls) j (whole 0 0)) (get_or (x ∷ xs) j no_slot)
          each l ls xs x h hs zero m = h
          each l ls xs x h hs (suc j) m = hs j (omega arith)
