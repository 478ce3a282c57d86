-- Two runs that one who sees only public cells, steps and trace cannot tell apart; or one of them was refused with 27 where the other went on.
-- One law for each command. A law is about two commands: after a secret is read, the two runs go on with different values.
use Prim.Native.Nat.{ℕ, zero, suc, ◌≤◌}
use Rattle.std.specs.Prelude.{List, [], ◌∷◌, ◌++◌, ◌≡◌, refl, Bool, not, length, get_or, set, T}
use Rattle.std.proofs.Common.{append-nil, ◌∙◌, arith, get_or-set_same, get_or-set_other}
use Rattle.std.proofs.Math.Path.{sym, ap, subst}
use Rattle.std.proofs.Math.Bool.{true, false}
use Rattle.std.proofs.Math.Logic.{dite}
use Rattle.std.proofs.Math.Decide.{ℕ_discrete, dec_lt}
use Rattle.std.proofs.Math.ListN.{length-set}
use Rattle.std.proofs.Math.Seq.{set_out}
use Rattle.std.proofs.Math.Dec.{eqb}
use Rattle.rules.specs.Words.{exchanged}
use Rattle.rules.specs.Machine.{State, Out, done, stop, Command, Found, found, fault, noted, holding, after, and_then, step_from, step, on_found, reading, next, both, choose, change, exchange, put, left_first, turns_of, counted}
use Rattle.laws.specs.Growth.{last, Stepped, Steps, stepped-trans, steps_next, steps_both, steps_put, steps_left_first, steps_turns_of}

-- What two readings found: the same events, and the same fault or values that are related.
pub data FoundAlike {A : Type 0} (R : A → A → Type 0) : Found A → Found A → Type 0 where
  values : {v w : A} {t : List ℕ} → R v w → FoundAlike R (found v t) (found w t)
  faults : {k n : ℕ} {t : List ℕ} → FoundAlike R (fault k n t) (fault k n t)

after-alike : {A : Type 0} {R : A → A → Type 0} (t : List ℕ) {x y : Found A} → FoundAlike R x y → FoundAlike R (after t x) (after t y)
unfolding after
after-alike t (values r) = values r
after-alike t faults = faults

pub and_then-alike : {A B : Type 0} (R : A → A → Type 0) {S : B → B → Type 0} {x y : Found A} (f g : A → Found B)
    → FoundAlike R x y → ((v w : A) → R v w → FoundAlike S (f v) (g w)) → FoundAlike S (and_then x f) (and_then y g)
unfolding and_then
and_then-alike R f g (values {v} {w} {t} r) F = after-alike t (F v w r)
and_then-alike R f g faults F = faults

set_alike : (σ τ : List ℕ) (i j v w : ℕ) → length σ ≡ length τ → (j ≡ i → v ≡ w) → get_or σ j 0 ≡ get_or τ j 0 → get_or (set σ i v) j 0 ≡ get_or (set τ i w) j 0
set_alike σ τ i j v w l e h = dite (ℕ_discrete j i)
    (λ q. dite (dec_lt i (length σ))
    (λ m. rw (q, get_or-set_same σ i v 0 m, get_or-set_same τ i w 0 (omega arith)) (e q))
    (λ k. let a : length σ ≤ i = omega arith in let b : length τ ≤ i = omega arith in rw (set_out σ i v a, set_out τ i w b) h))
    (λ k. rw (get_or-set_other σ i j v 0 k, get_or-set_other τ i j w 0 k) h)

module _ (is_hidden : ℕ → Bool) where
  -- The cells that may be seen.
  abbrev pub Public : ℕ → Type 0
  Public i = T (not (is_hidden i))

  abbrev pub Agree : List ℕ → List ℕ → Type 0
  Agree σ τ = (i : ℕ) → Public i → get_or σ i 0 ≡ get_or τ i 0

  pub record StatesAlike (c d : State) : Type 0 where
    pub long : length c.memory ≡ length d.memory
    pub agree : Agree c.memory d.memory
    pub lefts : c.left ≡ d.left
    pub traces : c.events ≡ d.events

  pub data OutsAlike : Out → Out → Type 0 where
    finished : {c d : State} → StatesAlike c d → OutsAlike (done c) (done d)
    refused : {k n : ℕ} {c d : State} → c.left ≡ d.left → c.events ≡ d.events → OutsAlike (stop k n c) (stop k n d)
    left27 : {n : ℕ} {c : State} {o : Out} → Stepped c (last o) → OutsAlike (stop 27 n c) o
    right27 : {n : ℕ} {c : State} {o : Out} → Stepped c (last o) → OutsAlike o (stop 27 n c)

  abbrev pub Alike : Command → Command → Type 0
  Alike f g = (c d : State) → StatesAlike c d → OutsAlike (f c) (g d)

  next-alike : {o o' : Out} → OutsAlike o o' → (g g' : Command) → Steps g → Steps g' → Alike g g' → OutsAlike (next o g) (next o' g')
  unfolding next
  next-alike (finished {c} {d} r) g g' S S' G = G c d r
  next-alike (refused e t) g g' S S' G = refused e t
  next-alike (left27 {o = o} s) g g' S S' G = left27 (stepped-trans s (steps_next o g' S'))
  next-alike (right27 {o = o} s) g g' S S' G = right27 (stepped-trans s (steps_next o g S))

  pub both-alike : (f f' g g' : Command) → Steps g → Steps g' → Alike f f' → Alike g g' → Alike (both f g) (both f' g')
  unfolding both
  both-alike f f' g g' S S' F G c d r = next-alike (F c d r) g g' S S' G

  pub step-alike : (n : ℕ) (f g : Command) → Alike f g → Alike (step n f) (step n g)
  unfolding step
  step-alike n f g F c d r = subst (λ l. OutsAlike (step_from c.left n f c) (step_from l n g d)) r.lefts (go c.left)
    where
      go : (l : ℕ) → OutsAlike (step_from l n f c) (step_from l n g d)
      go zero = unfold step_from in refused r.lefts r.traces
      go (suc l) = unfold step_from in F _ _ (record { long = r.long; agree = r.agree; lefts = refl; traces = ap (λ t. t ++ (n ∷ [])) r.traces })

  noted-alike : (t : List ℕ) (c d : State) → StatesAlike c d → StatesAlike (noted t c) (noted t d)
  unfolding noted
  noted-alike t c d r = record { long = r.long; agree = r.agree; lefts = r.lefts; traces = ap (λ u. u ++ t) r.traces }

  pub reading-alike : {A : Type 0} (R : A → A → Type 0) (a b : List ℕ → Found A) (f g : A → Command)
      → ((σ τ : List ℕ) → Agree σ τ → FoundAlike R (a σ) (b τ)) → ((v w : A) → R v w → Alike (f v) (g w)) → Alike (reading a f) (reading b g)
  unfolding reading
  reading-alike {A} R a b f g S F c d r = go (S c.memory d.memory r.agree)
    where
      go : {x y : Found A} → FoundAlike R x y → OutsAlike (on_found x f c) (on_found y g d)
      go (values {v} {w} {t} e) = unfold on_found in F v w e (noted t c) (noted t d) (noted-alike t c d r)
      go (faults {t = t}) = unfold on_found in (let q = noted-alike t c d r in refused q.lefts q.traces)

  pub done_alike : Alike done done
  done_alike c d r = finished r

  pub stop_alike : (k n : ℕ) → Alike (stop k n) (stop k n)
  stop_alike k n c d r = refused r.lefts r.traces

  pub choose-alike : (b b' : Bool) (f f' g g' : Command) (c d : State) → b ≡ b' → OutsAlike (f c) (f' d) → OutsAlike (g c) (g' d) → OutsAlike (choose b f g c) (choose b' f' g' d)
  choose-alike b b' f f' g g' c d e F G = subst (λ x. OutsAlike (choose b f g c) (choose x f' g' d)) e (go b)
    where
      go : (x : Bool) → OutsAlike (choose x f g c) (choose x f' g' d)
      go true = unfold choose in F
      go false = unfold choose in G

  -- A new value at cell i, the same in both if i is public.
  holding-alike : (i v w : ℕ) (c d : State) → StatesAlike c d → (Public i → v ≡ w) → StatesAlike (holding (set c.memory i v) c) (holding (set d.memory i w) d)
  unfolding holding
  holding-alike i v w c d r h = record {
    long = length-set c.memory i v ∙ r.long ∙ sym (length-set d.memory i w);
    agree = λ j p. set_alike c.memory d.memory i j v w r.long (λ e. h (rw e at p)) (r.agree j p);
    lefts = r.lefts;
    traces = r.traces;
  }

  pub change-alike : (f g : ℕ → ℕ) (i : ℕ) → (Public i → (x : ℕ) → f x ≡ g x) → Alike (change f i) (change g i)
  unfolding change
  change-alike f g i h c d r = finished (noted-alike _ _ _ (holding-alike i _ _ c d r (λ p. ap f (r.agree i p) ∙ h p (get_or d.memory i 0))))

  exchanged-alike : (v w : ℕ) {a a' b b' : ℕ} → v ≡ w → a ≡ a' → b ≡ b' → exchanged v a b ≡ exchanged w a' b'
  exchanged-alike v w e h k = cc

  pub exchange-alike : (v w i j : ℕ) → is_hidden i ≡ is_hidden j → (Public i → v ≡ w) → Alike (exchange v i j) (exchange w i j)
  unfolding exchange holding
  exchange-alike v w i j e h c d r = finished (noted-alike _ _ _
      (holding-alike j _ _ (holding (set c.memory i _) c) (holding (set d.memory i _) d)
      (holding-alike i _ _ c d r (λ p. exchanged-alike v w (h p) (r.agree i p) (r.agree j (rw (← e) p))))
      (λ p. exchanged-alike v w (h (rw e p)) (r.agree j p) (r.agree i (rw e p)))))

  pub put-alike : (i v : ℕ) → Alike (put i v) (put i v)
  unfolding put
  put-alike i v c d r = finished (holding-alike i v v c d r (λ p. refl))

  left_first-alike : (n i first : ℕ) (f g : Command) → Public i → Alike f g → Alike (left_first n i first f) (left_first n i first g)
  unfolding left_first
  left_first-alike n i first f g p F c d r = choose-alike _ _ (stop 28 n) (stop 28 n) f g c d (ap (λ x. eqb x first) (r.agree i p)) (stop_alike 28 n c d r) (F c d r)

  turns_of-alike : (turns n i first second : ℕ) (f g : Command) → Public i → Steps f → Steps g → Alike f g → Alike (turns_of turns n i first second f) (turns_of turns n i first second g)
  unfolding turns_of
  turns_of-alike zero n i first second f g p S S' F c d r =
      choose-alike _ _ done done (stop 23 n) (stop 23 n) c d (ap (λ x. eqb x second) (r.agree i p)) (done_alike c d r) (stop_alike 23 n c d r)
  turns_of-alike (suc turns) n i first second f g p S S' F c d r =
      choose-alike _ _ done done _ _ c d (ap (λ x. eqb x second) (r.agree i p)) (done_alike c d r)
      (step-alike n _ _
      (both-alike f g _ _
      (steps_left_first n i first _ (steps_turns_of turns n i first second f S)) (steps_left_first n i first _ (steps_turns_of turns n i first second g S')) F
      (left_first-alike n i first _ _ p (turns_of-alike turns n i first second f g p S S' F))) c d r)

  pub counted-alike : (n i first second : ℕ) (f g : Command) → Public i → Steps f → Steps g → Alike f g → Alike (counted n i first second f) (counted n i first second g)
  unfolding counted
  counted-alike n i first second f g p S S' F =
      both-alike _ _ _ _ (turns-steps f S) (turns-steps g S') (put-alike i first)
      (both-alike _ _ _ _ (steps_put i 0) (steps_put i 0)
      (λ c d r. subst (λ l. OutsAlike (turns_of c.left n i first second f c) (turns_of l n i first second g d)) r.lefts (turns_of-alike c.left n i first second f g p S S' F c d r))
      (put-alike i 0))
    where
      turns-steps : (h : Command) → Steps h → Steps (both (λ c. turns_of c.left n i first second h c) (put i 0))
      turns-steps h H = steps_both _ _ (λ c. steps_turns_of c.left n i first second h H c) (steps_put i 0)

  -- At a block's end the tests of the secret cells may differ: the run that fails is refused with 27.
  level : (c d : State) → c.left ≡ d.left → c.events ≡ d.events → Stepped c d
  level c d e t = record { later = record { less = omega arith; begins = ([], sym t ∙ sym (append-nil c.events)) }; still = λ q. sym t }

  pub leftover_alike : (b b' : Bool) (n : ℕ) → Alike (choose b done (stop 27 n)) (choose b' done (stop 27 n))
  unfolding choose last
  leftover_alike true true n c d r = finished r
  leftover_alike true false n c d r = right27 (level d c (sym r.lefts) (sym r.traces))
  leftover_alike false true n c d r = left27 (level c d r.lefts r.traces)
  leftover_alike false false n c d r = refused r.lefts r.traces
