-- What a run has left falls and its trace only grows; a command that takes no step writes nothing.
-- One law for each command; what stands under a step needs the weak form (Grows) only.
use Rattle.std.specs.Prelude.{ℕ, zero, suc, ◌≤◌, List, [], ◌∷◌, ◌++◌, ◌≡◌, refl, Bool, true, false, eqb}
use Rattle.std.proofs.Common.{append_assoc, append-nil, sym, ◌∙◌, arith}
use Rattle.rules.specs.Words.{Direction, forward, inverse, turned}
use Rattle.rules.specs.Image.{Header, Parts, procedure_of}
use Rattle.rules.specs.Tree.{Stmt, empty, update, swap, conditional_swap, branch, loop, call, block, nothing, list, body_of}
use Rattle.rules.specs.Machine.{Slot, Env, State, Out, done, stop, Command, Found, found, fault, cell_event, noted, holding, step_from, step, on_found, reading, next, both, in_order, choose, change, exchange, put, left_first, turns_of, counted, block_end, Calls, exec}
use Rattle.rules.specs.Run.{env_of, calls_below}

-- xs is the beginning of ys.
abbrev pub Begins : List ℕ → List ℕ → Type 0
Begins xs ys = (zs : List ℕ) × (ys ≡ xs ++ zs)

-- The state in which a run finishes or is refused.
unfoldable pub last : Out → State
last (done c) = c
last (stop k n c) = c

-- d comes after c.
pub record Later (c d : State) : Type 0 where
  pub less : d.left ≤ c.left
  pub begins : Begins c.events d.events

-- And if no step was taken, nothing was written.
pub record Stepped (c d : State) : Type 0 where
  pub later : Later c d
  pub still : d.left ≡ c.left → d.events ≡ c.events

abbrev pub Grows : Command → Type 0
Grows f = (c : State) → Later c (last (f c))

abbrev pub Steps : Command → Type 0
Steps f = (c : State) → Stepped c (last (f c))

pub begins-refl : (xs : List ℕ) → Begins xs xs
begins-refl xs = ([], sym (append-nil xs))

later_refl : (c : State) → Later c c
later_refl c = record { less = omega arith; begins = begins-refl c.events }

later_trans : {c d e : State} → Later c d → Later d e → Later c e
later_trans {c} {d} {e} p q = record {
  less = omega arith;
  begins = (p.begins.0 ++ q.begins.0, rw (q.begins.1, p.begins.1) (append_assoc c.events p.begins.0 q.begins.0));
}

stepped-refl : (c : State) → Stepped c c
stepped-refl c = record { later = later_refl c; still = λ e. refl }

pub stepped-trans : {c d e : State} → Stepped c d → Stepped d e → Stepped c e
stepped-trans {c} {d} {e} p q = record {
  later = later_trans p.later q.later;
  still = λ h. q.still (omega (arith, p.later.less, q.later.less)) ∙ p.still (omega (arith, p.later.less, q.later.less));
}

-- ---- the commands

pub grows : (f : Command) → Steps f → Grows f
grows f F c = (F c).later

pub steps_done : Steps done
unfolding last
steps_done c = stepped-refl c

pub steps_stop : (k n : ℕ) → Steps (stop k n)
unfolding last
steps_stop k n c = stepped-refl c

pub steps_next : (o : Out) (g : Command) → Steps g → Stepped (last o) (last (next o g))
unfolding next last
steps_next (done c) g G = G c
steps_next (stop k n c) g G = stepped-refl c

pub steps_both : (f g : Command) → Steps f → Steps g → Steps (both f g)
unfolding both
steps_both f g F G c = stepped-trans (F c) (steps_next (f c) g G)

pub steps_choose : (b : Bool) (f g : Command) → Steps f → Steps g → Steps (choose b f g)
unfolding choose
steps_choose true f g F G = F
steps_choose false f g F G = G

steps_from : (left n : ℕ) (f : Command) → Grows f → (c : State) → left ≡ c.left → Stepped c (last (step_from left n f c))
unfolding step_from last
steps_from zero n f F c e = stepped-refl c
steps_from (suc left) n f F c e =
    let w = F (record { memory = c.memory; left = left; events = c.events ++ (n ∷ []) }) in
    record { later = later_trans {c = c} (record { less = omega arith; begins = (n ∷ [], refl) }) w; still = λ h. absurd (let v = w.less in omega arith) }

pub steps_step : (n : ℕ) (f : Command) → Grows f → Steps (step n f)
unfolding step
steps_step n f F c = steps_from c.left n f F c refl

grows_choose : (b : Bool) (f g : Command) → Grows f → Grows g → Grows (choose b f g)
unfolding choose
grows_choose true f g F G = F
grows_choose false f g F G = G

later_noted : (t : List ℕ) (c : State) → Later c (noted t c)
unfolding noted
later_noted t c = record { less = omega arith; begins = (t, refl) }

grows_reading : {A : Type 0} (a : List ℕ → Found A) (f : A → Command) → ((v : A) → Grows (f v)) → Grows (reading a f)
unfolding reading
grows_reading {A} a f F c = go (a c.memory)
  where
    go : (x : Found A) → Later c (last (on_found x f c))
    go (found v t) = unfold on_found in later_trans (later_noted t c) (F v (noted t c))
    go (fault k n t) = unfold on_found last in later_noted t c

grows_change : (f : ℕ → ℕ) (i : ℕ) → Grows (change f i)
unfolding change noted holding last
grows_change f i c = record { less = omega arith; begins = (cell_event i ∷ [], refl) }

grows_exchange : (condition i j : ℕ) → Grows (exchange condition i j)
unfolding exchange noted holding last
grows_exchange condition i j c = record { less = omega arith; begins = (_, refl) }

pub steps_put : (i v : ℕ) → Steps (put i v)
unfolding put holding last
steps_put i v c = record { later = record { less = omega arith; begins = begins-refl c.events }; still = λ e. refl }

pub steps_left_first : (n i first : ℕ) (f : Command) → Steps f → Steps (left_first n i first f)
unfolding left_first
steps_left_first n i first f F c = steps_choose _ (stop 28 n) f (steps_stop 28 n) F c

pub steps_turns_of : (turns n i first second : ℕ) (f : Command) → Steps f → Steps (turns_of turns n i first second f)
unfolding turns_of
steps_turns_of zero n i first second f F c = steps_choose _ done (stop 23 n) steps_done (steps_stop 23 n) c
steps_turns_of (suc turns) n i first second f F c =
    steps_choose _ done _ steps_done
    (steps_step n _ (grows _ (steps_both f _ F (steps_left_first n i first _ (steps_turns_of turns n i first second f F))))) c

pub steps_block_end : (n : ℕ) (ρ : Env) (xs : List ℕ) → Steps (block_end n ρ xs)
unfolding block_end
steps_block_end n ρ xs c = steps_choose _ _ _ (steps_choose _ _ _ steps_done (steps_stop 27 n)) (steps_stop 26 n) c

-- ---- statements and procedures

abbrev pub CallsGrow : Calls → Type 0
CallsGrow calls = (q : ℕ) (d : Direction) (xs : List Slot) → Grows (calls q d xs)

module _ (calls : Calls) (G : CallsGrow calls) (ρ : Env) where
  pub steps_exec : (s : Stmt) (d : Direction) → Steps (exec calls d ρ s)
  unfolding exec in_order counted
  steps_exec (empty n) d = steps_step n done (grows done steps_done)
  steps_exec (update n o l e) d = steps_step n _ (grows_reading _ _ (λ i. grows_reading _ _ (λ v. grows_change _ i)))
  steps_exec (swap n l m) d = steps_step n _ (grows_reading _ _ (λ i. grows_reading _ _ (λ j. grows_exchange 1 i j)))
  steps_exec (conditional_swap n e l m) d = steps_step n _ (grows_reading _ _ (λ v. grows_reading _ _ (λ i. grows_reading _ _ (λ j. grows_exchange v i j))))
  steps_exec (branch n e s t) d = steps_step n _ (grows_reading _ _ (λ v. grows_choose (eqb v 0) _ _ (grows _ (steps_exec t d)) (grows _ (steps_exec s d))))
  steps_exec (loop n x a b s) d = steps_step n _ (grows_reading _ _ (λ v. grows_reading _ _ (λ w. grows _
      (steps_both _ _ (steps_put _ v) (steps_both _ _ (λ c. steps_turns_of c.left n _ v w _ (steps_exec s d) c) (steps_put _ 0))))))
  steps_exec (call n k q ls) d = steps_step n _ (grows_reading _ _ (λ xs. G q (turned d k) xs))
  steps_exec (block n xs s) d = steps_step n _ (grows _ (steps_both _ _ (steps_exec s d) (steps_block_end n ρ xs)))
  steps_exec nothing d = steps_done
  steps_exec (list s t) forward = steps_both _ _ (steps_exec s forward) (steps_exec t forward)
  steps_exec (list s t) inverse = steps_both _ _ (steps_exec t inverse) (steps_exec s inverse)

pub grows_calls_below : (h : Header) (s : Parts) (homes : Env) (p : ℕ) → CallsGrow (calls_below h s homes p)
unfolding calls_below
grows_calls_below h s homes zero q d xs = grows done steps_done
grows_calls_below h s homes (suc p) q d xs = grows_choose (eqb q p) _ _
    (grows _ (steps_exec _ (grows_calls_below h s homes p) (env_of homes (procedure_of s.procedures p) xs) (body_of h s p) d)) (grows_calls_below h s homes p q d xs)
