-- Safe statements, run from states that agree on public cells, end alike.
-- One clause for each statement: it strings together the laws of its commands.
use Rattle.std.specs.Prelude.{ℕ, List, ◌≡◌, refl, Bool, not, length, T}
use Rattle.std.proofs.Common.{sym, ◌∙◌}
use Rattle.std.proofs.Math.Path.{ap}
use Rattle.std.proofs.Math.Dec.{eqb}
use Rattle.rules.specs.Words.{Direction, forward, inverse, turned, changed_by, going}
use Rattle.rules.specs.Image.{Parts, Procedure, procedure_of}
use Rattle.rules.specs.Tree.{Expr, LValue, Stmt, empty, update, swap, conditional_swap, branch, loop, call, block, nothing, list, root}
use Rattle.rules.specs.Walk.{secret}
use Rattle.rules.specs.Machine.{Slot, Env, Command, done, eval, address, reading, in_order, counted, Calls, first_bound, exec}
use Rattle.laws.specs.Records.{Single}
use Rattle.laws.specs.Cells.{In}
use Rattle.laws.specs.Growth.{Steps, CallsGrow, steps_exec, steps_block_end}
use Rattle.laws.specs.Alike.{Alike, both-alike, step-alike, reading-alike, done_alike, choose-alike, change-alike, exchange-alike, counted-alike}
use Rattle.laws.specs.SecrecyRules.{secret_name, SafeExpr, SafeTarget, SafeStmt}
use Rattle.laws.specs.AlikeReadings.{SafeSlots, SafeEnv, base_in, eval-alike, address-alike, target_index, arguments-alike, block_end-alike}

module _ (is_hidden : ℕ → Bool) (s : Parts) where
  abbrev pub CallsAlike : Calls → Type 0
  CallsAlike calls =
      (p : ℕ) (d : Direction) (xs : List Slot) → length xs ≡ (procedure_of s.procedures p).parameters → SafeSlots is_hidden s (procedure_of s.procedures p).first xs
      → Alike is_hidden (calls p d xs) (calls p d xs)

  module _ (q : Procedure) (ρ : Env) (E : SafeEnv is_hidden s q ρ) where
    value : (e : Expr) → SafeExpr s q e → (f g : ℕ → Command) → ((v w : ℕ) → (T (not (secret s e)) → v ≡ w) → Alike is_hidden (f v) (g w))
        → Alike is_hidden (reading (λ σ. eval ρ σ e) f) (reading (λ σ. eval ρ σ e) g)
    value e k f g F = reading-alike is_hidden _ _ _ f g (eval-alike is_hidden s q ρ E e k) F

    target : (l : LValue) → SafeTarget s q l → (f g : ℕ → Command) → ((i : ℕ) → In (ρ (root l)) i → Alike is_hidden (f i) (g i))
        → Alike is_hidden (reading (λ σ. address ρ σ l) f) (reading (λ σ. address ρ σ l) g)
    target l k f g F = reading-alike is_hidden _ _ _ f g (address-alike is_hidden s q ρ E l (target_index is_hidden s q ρ E l k)) (λ i j r. rw (← r.0) (F i (r.1 k)))

    as_secret : (l m : LValue) → secret_name s (root l) ≡ secret_name s (root m) → (i j : ℕ) → In (ρ (root l)) i → In (ρ (root m)) j → is_hidden i ≡ is_hidden j
    as_secret l m e i j h k = (E.secrecy (root l) i h).0 ∙ e ∙ sym (E.secrecy (root m) j k).0

    -- A for, after its step: both bounds and the turns.
    abbrev turns : ℕ → ℕ → Expr → Expr → Command → Command
    turns n x a b f = reading (λ σ. eval ρ σ a) (λ v. reading (λ σ. eval ρ σ b) (λ w. counted n (ρ x).base v w f))

    loop_alike : (n x : ℕ) (a b : Expr) → SafeExpr s q a × T (not (secret s a)) → SafeExpr s q b × T (not (secret s b)) → Single s q x × T (not (secret_name s x))
        → (f : Command) → Steps f → Alike is_hidden f f → Alike is_hidden (turns n x a b f) (turns n x a b f)
    loop_alike n x a b A B X f S F =
        value a A.0 _ _ (λ v v' e. value b B.0 _ _ (λ w w' e'.
        rw (← e A.1, ← e' B.1) (counted-alike is_hidden n (ρ x).base v w f f (rw (E.secrecy x (ρ x).base (base_in is_hidden s q ρ E x X.0)).0 X.1) S S F)))

    module _ (calls : Calls) (G : CallsGrow calls) (H : CallsAlike calls) where
      pub exec-alike : (t : Stmt) → SafeStmt s q t → (d : Direction) → Alike is_hidden (exec calls d ρ t) (exec calls d ρ t)
      unfolding exec SafeStmt in_order first_bound
      exec-alike (empty n) k d = step-alike is_hidden n done done (done_alike is_hidden)
      exec-alike (update n o l e) k d = step-alike is_hidden n _ _ (target l k.0 _ _ (λ i m. value e k.1 _ _
          (λ v w r. change-alike is_hidden _ _ i (λ p x. ap (λ y. changed_by (going d o) (ρ (root l)).width y x) (r (k.2 (rw (E.secrecy (root l) i m).0 at p)))))))
      exec-alike (swap n l m) k d = step-alike is_hidden n _ _ (target l k.0 _ _ (λ i h. target m k.1 _ _
          (λ j h'. exchange-alike is_hidden 1 1 i j (as_secret l m k.2 i j h h') (λ p. refl))))
      exec-alike (conditional_swap n e l m) k d = step-alike is_hidden n _ _ (value e k.0 _ _ (λ v w r. target l k.1 _ _ (λ i h. target m k.2 _ _
          (λ j h'. exchange-alike is_hidden v w i j (as_secret l m k.3 i j h h') (λ p. r (k.4 (rw (E.secrecy (root l) i h).0 at p)))))))
      exec-alike (branch n e t u) k d = step-alike is_hidden n _ _ (value e k.0.0 _ _
          (λ v w r c c' a. choose-alike is_hidden (eqb v 0) (eqb w 0) _ _ _ _ c c' (ap (λ x. eqb x 0) (r k.0.1)) (exec-alike u k.2 d c c' a) (exec-alike t k.1 d c c' a)))
      exec-alike (loop n x a b t) k forward = step-alike is_hidden n _ _ (loop_alike n x a b k.0 k.1 k.2 _ (steps_exec calls G ρ t forward) (exec-alike t k.3 forward))
      exec-alike (loop n x a b t) k inverse = step-alike is_hidden n _ _ (loop_alike n x b a k.1 k.0 k.2 _ (steps_exec calls G ρ t inverse) (exec-alike t k.3 inverse))
      exec-alike (call n u p ls) k d = step-alike is_hidden n _ _ (reading-alike is_hidden _ _ _ _ _ (arguments-alike is_hidden s q ρ E _ ls k.1)
          (λ xs zs r. rw (← r.0) (H p (turned d u) xs (r.1 ∙ k.0) r.2)))
      exec-alike (block n xs t) k d = step-alike is_hidden n _ _
          (both-alike is_hidden _ _ _ _ (steps_block_end n ρ xs) (steps_block_end n ρ xs) (exec-alike t k d) (block_end-alike is_hidden s q ρ E n xs))
      exec-alike nothing k d = done_alike is_hidden
      exec-alike (list t u) k forward =
          both-alike is_hidden _ _ _ _ (steps_exec calls G ρ u forward) (steps_exec calls G ρ u forward) (exec-alike t k.0 forward) (exec-alike u k.1 forward)
      exec-alike (list t u) k inverse =
          both-alike is_hidden _ _ _ _ (steps_exec calls G ρ t inverse) (steps_exec calls G ρ t inverse) (exec-alike u k.1 inverse) (exec-alike t k.0 inverse)
