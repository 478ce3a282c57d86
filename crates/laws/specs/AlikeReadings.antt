-- Readings over stores that agree on public cells: safe expressions, indices and arguments find the same, but for secret values.
-- A slot is safe for a name if its cells are as secret as the name, and it has one cell if the name is no array.
use Prim.Native.Nat.{ℕ, zero, suc, ◌+◌, ◌≤◌, ◌<◌}
use mathlib.Core.List.{List, [], ◌∷◌}
use Rattle.std.specs.Prelude.{◌≡◌, Bool, not, cond, ◌||◌, length, get_or, T, eqb, ltb}
use Rattle.std.proofs.Math.Path.{refl, sym, ap, ap₂}
use Rattle.std.proofs.Common.{◌∙◌, true≢false, ltb→lt}
use Rattle.std.proofs.Math.Bool.{true, false, ◌&&◌}
use Rattle.std.proofs.lemmas.Bool.{false≢true}
use native.Mathlib.Omega.{arith}
use Rattle.std.proofs.Math.Nat.{add-zero}
use Rattle.rules.specs.Words.{Binary, divides, operate, operate1}
use Rattle.rules.specs.Image.{Parts, Procedure, is_array}
use Rattle.rules.specs.Tree.{Expr, number, constant, variable, element, size, binary, unary, LValue, whole, entry, root}
use Rattle.rules.specs.Walk.{type_of, secret}
use Rattle.rules.specs.Machine.{Slot, no_slot, Env, Found, found, fault, inside, load, divided, eval, address, lent, arguments, zeros, cleared, block_end, stop}
use Rattle.laws.specs.Records.{Single}
use Rattle.laws.specs.Verdicts.{nor_left, nor_right}
use Rattle.laws.specs.Cells.{In}
use Rattle.laws.specs.Alike.{FoundAlike, values, faults, and_then-alike, Agree, Alike, choose-alike, leftover_alike, stop_alike}
use Rattle.laws.specs.SecrecyRules.{secret_name, SafeExpr, SafeIndex, SafeTarget, SafeArguments}

inside-alike : (n : ℕ) (x : Slot) (v w : ℕ) → v ≡ w → FoundAlike (λ i j. (i ≡ j) × In x i) (inside n x v) (inside n x w)
unfolding inside
inside-alike n x v w e = rw e (go (ltb w x.cells) (ltb→lt w x.cells))
  where
    go : (b : Bool) → (T b → w < x.cells) → FoundAlike (λ i j. (i ≡ j) × In x i) (cond b (found (x.base + w) []) (fault 24 n [])) (cond b (found (x.base + w) []) (fault 24 n []))
    go true h = let l = h tt in let m : In x (x.base + w) = omega arith in values (refl, m)
    go false h = faults

cond_alike : {A : Type 0} {R : A → A → Type 0} (b b' : Bool) {x x' y y' : Found A} → b ≡ b' → FoundAlike R x x' → FoundAlike R y y' → FoundAlike R (cond b x y) (cond b' x' y')
cond_alike true true e X Y = X
cond_alike true false e X Y = absurd (true≢false e)
cond_alike false true e X Y = absurd (false≢true e)
cond_alike false false e X Y = Y

-- A divisor that is not public is not tested.
divided-alike : (b : Bool) (n : ℕ) (o : Binary) (v v' w w' : ℕ) → (T (divides o) → w ≡ w') → (T (not b) → operate o v w ≡ operate o v' w')
    → FoundAlike (λ r r'. T (not b) → r ≡ r') (divided n o v w) (divided n o v' w')
unfolding divided
divided-alike b n o v v' w w' e h = cond_alike _ _ (tested (divides o) e) faults (values h)
  where
    tested : (d : Bool) → (T d → w ≡ w') → (d && eqb w 0) ≡ (d && eqb w' 0)
    tested true q = ap (λ z. eqb z 0) (q tt)
    tested false q = refl

zeros-alike : (σ τ : List ℕ) (i count : ℕ) → ((j : ℕ) → i ≤ j → j < i + count → get_or σ j 0 ≡ get_or τ j 0) → zeros σ i count ≡ zeros τ i count
unfolding zeros
zeros-alike σ τ i zero h = refl
zeros-alike σ τ i (suc count) h = ap₂ ◌&&◌ (ap (λ x. eqb x 0) (h i (omega arith) (omega arith))) (zeros-alike σ τ (suc i) count (λ j l m. h j (omega arith) (omega arith)))

module _ (is_hidden : ℕ → Bool) (s : Parts) where
  pub record SafeSlot (y : ℕ) (x : Slot) : Type 0 where
    pub secrecy : (i : ℕ) → In x i → (is_hidden i ≡ secret_name s y) × (x.hidden ≡ secret_name s y)
    pub single : T (not (is_array (type_of s y))) → x.cells ≡ 1

  -- Slots for the parameters from y on.
  unfoldable pub SafeSlots : ℕ → List Slot → Type 0
  SafeSlots y [] = Unit {0}
  SafeSlots y (x ∷ xs) = SafeSlot y x × SafeSlots (suc y) xs

  pub slot_at : (y : ℕ) (xs : List Slot) → SafeSlots y xs → (j : ℕ) → j < length xs → SafeSlot (y + j) (get_or xs j no_slot)
  unfolding SafeSlots
  slot_at y [] S j h = absurd (omega arith)
  slot_at y (x ∷ xs) S zero h = rw add-zero S.0
  slot_at y (x ∷ xs) S (suc j) h = let e : y + suc j ≡ suc y + j = omega arith in rw e (slot_at (suc y) xs S.1 j (omega arith))

  pub slots_each : (y : ℕ) (xs : List Slot) → ((j : ℕ) → j < length xs → SafeSlot (y + j) (get_or xs j no_slot)) → SafeSlots y xs
  unfolding SafeSlots
  slots_each y [] each = tt
  slots_each y (x ∷ xs) each =
      (rw add-zero at (each 0 (omega arith)), slots_each (suc y) xs (λ j h. let e : y + suc j ≡ suc y + j = omega arith in rw e at (each (suc j) (omega arith))))

  module _ (q : Procedure) where
    pub record SafeEnv (ρ : Env) : Type 0 where
      pub secrecy : (x i : ℕ) → In (ρ x) i → (is_hidden i ≡ secret_name s x) × ((ρ x).hidden ≡ secret_name s x)
      pub single : (x : ℕ) → Single s q x → (ρ x).cells ≡ 1

    module _ (ρ : Env) (E : SafeEnv ρ) where
      pub base_in : (x : ℕ) → Single s q x → In (ρ x) (ρ x).base
      base_in x h = let f = E.single x h in omega arith

      load-alike : (σ τ : List ℕ) → Agree is_hidden σ τ → (x i : ℕ) → In (ρ x) i → FoundAlike (λ v w. T (not (secret_name s x)) → v ≡ w) (load σ i) (load τ i)
      unfolding load
      load-alike σ τ h x i m = values (λ p. h i (rw (E.secrecy x i m).0 p))

      pub eval-alike : (e : Expr) → SafeExpr s q e → (σ τ : List ℕ) → Agree is_hidden σ τ → FoundAlike (λ v w. T (not (secret s e)) → v ≡ w) (eval ρ σ e) (eval ρ τ e)
      unfolding eval secret SafeExpr
      eval-alike (number n v) k σ τ h = values (λ p. refl)
      eval-alike (constant n x v) k σ τ h = values (λ p. refl)
      eval-alike (variable n x) k σ τ h = load-alike σ τ h x (ρ x).base (base_in x k)
      eval-alike (element n u x e) k σ τ h = and_then-alike _ _ _ (eval-alike e k.0 σ τ h)
          (λ v w r. and_then-alike _ _ _ (inside-alike n (ρ x) v w (r k.1)) (λ i j m. rw (← m.0) (load-alike σ τ h x i m.1)))
      eval-alike (size n x) k σ τ h = values (λ p. refl)
      eval-alike (binary n o a b) k σ τ h = and_then-alike _ _ _ (eval-alike a k.0 σ τ h)
          (λ v w r. and_then-alike _ _ _ (eval-alike b k.1 σ τ h)
          (λ v' w' r'. divided-alike (secret s a || secret s b) n o v w v' w' (λ t. r' (nor_right (secret s a) (secret s b) (k.2 t)))
          (λ p. ap₂ (operate o) (r (nor_left (secret s a) (secret s b) p)) (r' (nor_right (secret s a) (secret s b) p)))))
      eval-alike (unary n o a) k σ τ h = and_then-alike _ _ _ (eval-alike a k σ τ h) (λ v w r. values (λ p. ap (operate1 o) (r p)))

      -- Cell numbers never differ; a target's lies in its root.
      abbrev pub SameCell : LValue → ℕ → ℕ → Type 0
      SameCell l i j = (i ≡ j) × (SafeTarget s q l → In (ρ (root l)) i)

      pub address-alike : (l : LValue) → SafeIndex s q l → (σ τ : List ℕ) → Agree is_hidden σ τ → FoundAlike (SameCell l) (address ρ σ l) (address ρ τ l)
      unfolding address root SafeIndex SafeTarget
      address-alike (whole n x) k σ τ h = values (refl, base_in x)
      address-alike (entry n u x e) k σ τ h = and_then-alike _ _ _ (eval-alike e k.0 σ τ h) (λ v w r. within (inside-alike n (ρ x) v w (r k.1)))
        where
          within : {a b : Found ℕ} → FoundAlike (λ i j. (i ≡ j) × In (ρ x) i) a b → FoundAlike (SameCell (entry n u x e)) a b
          within (values r) = values (r.0, λ t. r.1)
          within faults = faults

      pub target_index : (l : LValue) → SafeTarget s q l → SafeIndex s q l
      unfolding SafeTarget SafeIndex
      target_index (whole n x) h = tt
      target_index (entry n u x e) h = h

      lent-safe : (y : ℕ) (l : LValue) (i : ℕ) → SafeIndex s q l → (T (not (is_array (type_of s y))) → SafeTarget s q l) → secret_name s (root l) ≡ secret_name s y
          → (SafeTarget s q l → In (ρ (root l)) i) → SafeSlot y (lent ρ l i)
      unfolding lent root SafeIndex SafeTarget
      lent-safe y (whole n x) i k t e m = record { secrecy = λ j h. let r = E.secrecy x j h in (r.0 ∙ e, r.1 ∙ e); single = λ h. E.single x (t h) }
      lent-safe y (entry n u x w) i k t e m = record {
        secrecy = λ j h. let q : j ≡ i = omega arith in let r = E.secrecy x i (m k) in (ap is_hidden q ∙ r.0 ∙ e, r.1 ∙ e);
        single = λ h. refl;
      }

      pub arguments-alike : (y : ℕ) (ls : List LValue) → SafeArguments s q y ls → (σ τ : List ℕ) → Agree is_hidden σ τ
          → FoundAlike (λ xs zs. (xs ≡ zs) × (length xs ≡ length ls) × SafeSlots y xs) (arguments ρ σ ls) (arguments ρ τ ls)
      unfolding arguments SafeArguments SafeSlots
      arguments-alike y [] k σ τ h = values (refl, refl, tt)
      arguments-alike y (l ∷ ls) k σ τ h = and_then-alike _ _ _ (address-alike l k.0 σ τ h)
          (λ i j r. and_then-alike _ _ _ (arguments-alike (suc y) ls k.3 σ τ h)
          (λ xs zs t. values (ap₂ (λ a b. lent ρ l a ∷ b) r.0 t.0, ap suc t.1, (lent-safe y l i k.0 k.1 k.2 r.1, t.2))))

      cleared-alike : (xs σ τ : List ℕ) → Agree is_hidden σ τ → cleared false ρ xs σ ≡ cleared false ρ xs τ
      unfolding cleared
      cleared-alike [] σ τ h = refl
      cleared-alike (x ∷ xs) σ τ h = ap₂ ◌&&◌ (one (ρ x).hidden refl) (cleared-alike xs σ τ h)
        where
          one : (b : Bool) → (ρ x).hidden ≡ b → (b || zeros σ (ρ x).base (ρ x).cells) ≡ (b || zeros τ (ρ x).base (ρ x).cells)
          one true e = refl
          one false e = zeros-alike σ τ (ρ x).base (ρ x).cells (λ i l m. h i (let r = E.secrecy x i (l, m) in rw (r.0 ∙ sym r.1 ∙ e) tt))

      pub block_end-alike : (n : ℕ) (xs : List ℕ) → Alike is_hidden (block_end n ρ xs) (block_end n ρ xs)
      unfolding block_end
      block_end-alike n xs c d r = choose-alike is_hidden _ _ _ _ (stop 26 n) (stop 26 n) c d (cleared-alike xs c.memory d.memory r.agree)
          (leftover_alike is_hidden (cleared true ρ xs c.memory) (cleared true ρ xs d.memory) n c d r) (stop_alike is_hidden 26 n c d r)
