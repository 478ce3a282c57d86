-- The forms of commands read backwards: a command that finishes says which of its parts finished, and how.
-- For each form the pair "finishes => its parts" and "its parts => what it does".
use Rattle.std.specs.Prelude.{ℕ, zero, suc, ◌<◌, List, [], ◌∷◌, ◌++◌, ◌≡◌, refl, Bool, true, false, not, ◌⊎◌, get_or, T, eqb}
use Rattle.std.proofs.Common.{sym, ◌∙◌, subst, inl, inr, ⊎_elim, arith}
use Rattle.std.proofs.Math.Dec.{eqb_refl}
use Rattle.rules.specs.Machine.{State, Out, done, stop, Command, Found, found, fault, noted, step_from, step, on_found, next, both, choose, left_first, turns_of}

pub Finished : Out → Type 0
Finished (done c) = Unit {0}
Finished (stop k n c) = ⊥

pub stopped_done : {k n : ℕ} {c c' : State} → stop k n c ≡ done c' → ⊥
unfolding Finished
stopped_done e = subst Finished (sym e) tt

pub done_same : {c c' : State} → done c ≡ done c' → c ≡ c'
done_same {c} {c'} e = cc

pub found_same : {A : Type 0} {v w : A} {t u : List ℕ} → found v t ≡ found w u → v ≡ w
found_same {A} {v} {w} {t} {u} e = cc

pub fault_found : {A : Type 0} {v : A} {k n : ℕ} {t u : List ℕ} → fault k n t ≡ found v u → ⊥
fault_found {A} {v} {k} {n} {t} {u} e = let z : ◌≡◌ {A = ℕ} 0 1 = cc in absurd (omega arith)

pub next-done : (o : Out) (g : Command) (c' : State) → next o g ≡ done c' → (m : State) × (o ≡ done m) × (g m ≡ done c')
unfolding next
next-done (done c) g c' e = (c, refl, e)
next-done (stop k n c) g c' e = absurd (stopped_done e)

pub next-run : (o : Out) (g : Command) (m : State) → o ≡ done m → next o g ≡ g m
unfolding next
next-run o g m e = rw e

-- The state in which a step of node n leaves off, with `left` steps left.
abbrev pub stepped : ℕ → ℕ → State → State
stepped n left c = record { memory = c.memory; left = left; events = c.events ++ (n ∷ []) }

pub step-done : (l n : ℕ) (f : Command) (c c' : State) → step_from l n f c ≡ done c' → (m : ℕ) × (l ≡ suc m) × (f (stepped n m c) ≡ done c')
unfolding step_from
step-done zero n f c c' e = absurd (stopped_done e)
step-done (suc m) n f c c' e = (m, refl, e)

pub step_run : (l m n : ℕ) (f : Command) (c : State) → l ≡ suc m → step_from l n f c ≡ f (stepped n m c)
unfolding step_from
step_run l m n f c e = rw e

pub positive : (l : ℕ) → 0 < l → (m : ℕ) × (l ≡ suc m)
positive zero h = absurd (omega arith)
positive (suc m) h = (m, refl)

pub found_done : {A : Type 0} (a : Found A) (f : A → Command) (c c' : State) → on_found a f c ≡ done c' → (v : A) × (t : List ℕ) × (a ≡ found v t) × (f v (noted t c) ≡ done c')
unfolding on_found
found_done (found v t) f c c' e = (v, t, refl, e)
found_done (fault k n t) f c c' e = absurd (stopped_done e)

pub found_run : {A : Type 0} (a : Found A) (f : A → Command) (c : State) (v : A) (t : List ℕ) → a ≡ found v t → on_found a f c ≡ f v (noted t c)
unfolding on_found
found_run a f c v t e = rw e

pub choose-done : (b : Bool) (f g : Command) (c c' : State) → choose b f g c ≡ done c' → (T b × (f c ≡ done c')) ⊎ (T (not b) × (g c ≡ done c'))
unfolding choose
choose-done true f g c c' e = inl (tt, e)
choose-done false f g c c' e = inr (tt, e)

pub choose_yes : (b : Bool) (f g : Command) (c : State) → T b → choose b f g c ≡ f c
unfolding choose
choose_yes true f g c t = refl
choose_yes false f g c t = absurd t

pub choose-not : (b : Bool) (f g : Command) (c : State) → T (not b) → choose b f g c ≡ g c
unfolding choose
choose-not true f g c t = absurd t
choose-not false f g c t = refl

-- A command that would be refused where the test holds.
pub choose-passed : (b : Bool) (k n : ℕ) (g : Command) (c c' : State) → choose b (stop k n) g c ≡ done c' → T (not b) × (g c ≡ done c')
choose-passed b k n g c c' e = ⊎_elim (λ h. absurd (stopped_done h.1)) (λ h. h) (choose-done b (stop k n) g c c' e)

-- One turn of a loop, given what the body does, and the end of a loop.
pub turn_run : (turns rest n i first second : ℕ) (f : Command) (c : State) (m : ℕ) (c' : State) → turns ≡ suc rest → c.left ≡ suc m
    → T (not (eqb (get_or c.memory i 0) second)) → f (stepped n m c) ≡ done c' → T (not (eqb (get_or c'.memory i 0) first))
    → turns_of turns n i first second f c ≡ turns_of rest n i first second f c'
unfolding turns_of step both left_first next
turn_run turns rest n i first second f c m c' et el t e t' = rw et
    (choose-not (eqb (get_or c.memory i 0) second) done (step n (both f (left_first n i first (turns_of rest n i first second f)))) c t
    ∙ step_run c.left m n (both f (left_first n i first (turns_of rest n i first second f))) c el
    ∙ rw e (choose-not (eqb (get_or c'.memory i 0) first) (stop 28 n) (turns_of rest n i first second f) c' t'))

pub turns-end : (turns n i first second : ℕ) (f : Command) (c : State) → get_or c.memory i 0 ≡ second → turns_of turns n i first second f c ≡ done c
unfolding turns_of
turns-end zero n i first second f c e = choose_yes (eqb (get_or c.memory i 0) second) _ _ c (rw e (eqb_refl second))
turns-end (suc turns) n i first second f c e = choose_yes (eqb (get_or c.memory i 0) second) _ _ c (rw e (eqb_refl second))
