-- What it is that a command `g` takes back a command `f`, and that the forms of commands keep it.
-- Z are the cells that must be 0 before and after, W the cells that may change; the way back needs as many steps as the way there took.
use Prim.Native.Nat.{ℕ, ◌+◌, ◌^◌, ◌≤◌, ◌<◌}
use mathlib.Core.List.{List}
use Rattle.std.specs.Prelude.{◌≡◌, Bool, not, cond, length, get_or, set, T, eqb}
use Rattle.std.proofs.Math.Path.{refl}
use Rattle.std.proofs.Common.{sym, ◌∙◌, ap, arith, length-set, get_or-set_same, get_or-set_other, set-set}
use Rattle.std.proofs.Math.Bool.{true, false}
use Rattle.std.proofs.Math.Logic.{dite}
use Rattle.std.proofs.Math.Decide.{ℕ_discrete, dec_lt}
use Rattle.std.proofs.lemmas.List.{set-get_or, set_comm}
use Rattle.std.proofs.Math.Seq.{set_out}
use Rattle.rules.specs.Words.{exchanged}
use Rattle.rules.specs.Machine.{State, done, Command, Found, found, noted, holding, step, reading, both, choose, change, exchange}
use Rattle.numbers.specs.Laws.{exchanged-fits}
use Rattle.laws.specs.Commands.{done_same, next-done, next-run, stepped, step-done, step_run, positive, found_done, found_run}

-- Sets of cells.
abbrev pub Cells : Type 1
Cells = ℕ → Type 0

-- Two memories agree outside W.
abbrev pub Agree : Cells → List ℕ → List ℕ → Type 0
Agree W σ τ = (i : ℕ) → (W i → ⊥) → get_or τ i 0 ≡ get_or σ i 0

-- What is read does not depend on what is changed.
abbrev pub Stable : {X : Type 0} → (List ℕ → X) → Cells → Type 0
Stable A W = (σ τ : List ℕ) → Agree W σ τ → A τ ≡ A σ

-- The way back from c1, of what led from c to c'.
pub record Back (g : Command) (c c' c1 : State) : Type 0 where
  pub end : State
  pub run : g c1 ≡ done end
  pub cell : end.memory ≡ c.memory
  pub lefts : end.left + c.left ≡ c1.left + c'.left

-- An exchange is its own inverse, whether or not it swaps.
module _ (σ : List ℕ) (i j : ℕ) (li : i < length σ) (lj : j < length σ) where
  abbrev swapped : List ℕ
  swapped = set (set σ i (get_or σ j 0)) j (get_or σ i 0)

  swapped-second : get_or swapped j 0 ≡ get_or σ i 0
  swapped-second = get_or-set_same (set σ i (get_or σ j 0)) j (get_or σ i 0) 0 (rw (length-set σ i (get_or σ j 0)) lj)

  swapped-first : get_or swapped i 0 ≡ get_or σ j 0
  swapped-first = go (ℕ_discrete i j)
    where
      go : Dec (i ≡ j) → get_or swapped i 0 ≡ get_or σ j 0
      go (yes e) = rw e (rw e at swapped-second)
      go (no n) = get_or-set_other (set σ i (get_or σ j 0)) j i (get_or σ i 0) 0 n ∙ get_or-set_same σ i (get_or σ j 0) 0 li

  swapped-back : set (set swapped i (get_or swapped j 0)) j (get_or swapped i 0) ≡ σ
  swapped-back = rw (swapped-second, swapped-first) (go (ℕ_discrete i j))
    where
      go : Dec (i ≡ j) → set (set swapped i (get_or σ i 0)) j (get_or σ j 0) ≡ σ
      go (yes e) = rw e (simp set-get_or)
      go (no n) = rw (set_comm (set σ i (get_or σ j 0)) j i (get_or σ i 0) (get_or σ i 0) (λ e. n (sym e))) (simp (set-set, set-get_or))

  abbrev exchanged_in : Bool → List ℕ → List ℕ
  exchanged_in b τ = set (set τ i (cond b (get_or τ i 0) (get_or τ j 0))) j (cond b (get_or τ j 0) (get_or τ i 0))

  pub exchanged-back : (b : Bool) → exchanged_in b (exchanged_in b σ) ≡ σ
  exchanged-back true = simp set-get_or
  exchanged-back false = swapped-back

-- N cells, of these sizes.
module _ (N : ℕ) (size : ℕ → ℕ) where
  pub record Inv (Z : Cells) (σ : List ℕ) : Type 0 where
    pub count : length σ ≡ N
    pub fit : (i : ℕ) → i < N → get_or σ i 0 < 2 ^ size i
    pub nil : (i : ℕ) → Z i → get_or σ i 0 ≡ 0

  pub record Post (g : Command) (Z W : Cells) (c c' : State) : Type 0 where
    pub inv : Inv Z c'.memory
    pub frame : Agree W c.memory c'.memory
    pub mono : c'.left ≤ c.left
    pub back : (c1 : State) → c1.memory ≡ c'.memory → c.left ≤ c1.left + c'.left → Back g c c' c1

  -- Wherever f finishes, g takes it back.
  abbrev pub Spec : (f g : Command) (Z W : Cells) → Type 0
  Spec f g Z W = (c c' : State) → Inv Z c.memory → f c ≡ done c' → Post g Z W c c'

  pub spec_done : (Z W : Cells) → Spec done done Z W
  spec_done Z W c c' I e = rw (← done_same e) (record {
    inv = I;
    frame = λ i h. refl;
    mono = omega arith;
    back = λ c1 q h. record { end = c1; run = refl; cell = q; lefts = refl };
  })

  pub spec_both : (f f' g g' : Command) (Z W : Cells) → Spec f f' Z W → Spec g g' Z W → Spec (both f g) (both g' f') Z W
  unfolding both
  spec_both f f' g g' Z W F G c c' I e =
      let b = next-done (f c) g c' e in
      let P1 = F c b.0 I b.1 in
      let P2 = G b.0 c' P1.inv b.2 in
      record {
        inv = P2.inv;
        frame = λ i h. P2.frame i h ∙ P1.frame i h;
        mono = omega (arith, P1.mono, P2.mono);
        back = λ c1 q h.
            let B2 = P2.back c1 q (omega (arith, P1.mono)) in
            let B1 = P1.back B2.end B2.cell (omega (arith, B2.lefts)) in
            record {
              end = B1.end;
              run = next-run (g' c1) f' B2.end B2.run ∙ B1.run;
              cell = B1.cell;
              lefts = omega (arith, B1.lefts, B2.lefts);
            };
      }

  pub spec_step : (n : ℕ) (f g : Command) (Z W : Cells) → Spec f g Z W → Spec (step n f) (step n g) Z W
  unfolding step
  spec_step n f g Z W F c c' I e =
      let b = step-done c.left n f c c' e in
      let P = F (stepped n b.0 c) c' I b.2 in
      record {
        inv = P.inv;
        frame = P.frame;
        mono = omega (arith, P.mono, b.1);
        back = λ c1 q h.
            let p = positive c1.left (omega (arith, P.mono, b.1)) in
            let B = P.back (stepped n p.0 c1) q (omega (arith, b.1, p.1)) in
            record {
              end = B.end;
              run = step_run c1.left p.0 n g c1 p.1 ∙ B.run;
              cell = B.cell;
              lefts = omega (arith, B.lefts, b.1, p.1);
            };
      }

  pub spec_read : {X : Type 0} (A : List ℕ → Found X) (f f' : X → Command) (Z W : Cells) → Stable A W
      → ((v : X) (σ t : List ℕ) → Inv Z σ → A σ ≡ found v t → Spec (f v) (f' v) Z W) → Spec (reading A f) (reading A f') Z W
  unfolding reading noted
  spec_read A f f' Z W st F c c' I e =
      let b = found_done (A c.memory) f c c' e in
      let P = F b.0 c.memory b.1 I b.2 (noted b.1 c) c' I b.3 in
      record {
        inv = P.inv;
        frame = P.frame;
        mono = P.mono;
        back = λ c1 q h.
            let B = P.back (noted b.1 c1) q h in
            record {
              end = B.end;
              run = found_run (A c1.memory) f' c1 b.0 b.1 (ap A q ∙ st c.memory c'.memory P.frame ∙ b.2) ∙ B.run;
              cell = B.cell;
              lefts = B.lefts;
            };
      }

  -- Two readings, which the way back makes in the other order.
  pub spec_read_two : (A B : List ℕ → Found ℕ) (f f' : ℕ → ℕ → Command) (Z W : Cells) → Stable A W → Stable B W
      → ((v w : ℕ) (σ t u : List ℕ) → Inv Z σ → A σ ≡ found v t → B σ ≡ found w u → Spec (f v w) (f' v w) Z W)
      → Spec (reading A (λ v. reading B (λ w. f v w))) (reading B (λ w. reading A (λ v. f' v w))) Z W
  unfolding reading noted
  spec_read_two A B f f' Z W st su F c c' I e =
      let b = found_done (A c.memory) (λ v. reading B (λ w. f v w)) c c' e in
      let d = found_done (B c.memory) (λ w. f b.0 w) (noted b.1 c) c' b.3 in
      let P = F b.0 d.0 c.memory b.1 d.1 I b.2 d.2 (noted d.1 (noted b.1 c)) c' I d.3 in
      record {
        inv = P.inv;
        frame = P.frame;
        mono = P.mono;
        back = λ c1 q h.
            let B1 = P.back (noted b.1 (noted d.1 c1)) q h in
            record {
              end = B1.end;
              run = found_run (B c1.memory) (λ w. reading A (λ v. f' v w)) c1 d.0 d.1 (ap B q ∙ su c.memory c'.memory P.frame ∙ d.2)
                  ∙ found_run (A c1.memory) (λ v. f' v d.0) (noted d.1 c1) b.0 b.1 (ap A q ∙ st c.memory c'.memory P.frame ∙ b.2) ∙ B1.run;
              cell = B1.cell;
              lefts = B1.lefts;
            };
      }

  pub spec_choose : (b : Bool) (f f' g g' : Command) (Z W : Cells) → (T b → Spec f f' Z W) → (T (not b) → Spec g g' Z W) → Spec (choose b f g) (choose b f' g') Z W
  unfolding choose
  spec_choose true f f' g g' Z W F G = F tt
  spec_choose false f f' g g' Z W F G = G tt

  -- More cells may change.
  pub spec_wider : (f g : Command) (Z W W' : Cells) → ((i : ℕ) → W i → W' i) → Spec f g Z W → Spec f g Z W'
  spec_wider f g Z W W' wider F c c' I e =
      let P = F c c' I e in
      record { inv = P.inv; frame = λ i h. P.frame i (λ w. h (wider i w)); mono = P.mono; back = P.back }

  pub inv_set : (Z : Cells) (σ : List ℕ) (i v : ℕ) → Inv Z σ → v < 2 ^ size i → (Z i → v ≡ 0) → Inv Z (set σ i v)
  inv_set Z σ i v I h zero-if = record {
    count = length-set σ i v ∙ I.count;
    fit = λ j l. fit_at j l (ℕ_discrete j i);
    nil = λ j z. nil_at j z (ℕ_discrete j i);
  }
    where
      fit_at : (j : ℕ) → j < N → Dec (j ≡ i) → get_or (set σ i v) j 0 < 2 ^ size j
      fit_at j l (yes e) = rw (e, get_or-set_same σ i v 0 (omega (arith, I.count))) h
      fit_at j l (no n) = rw (get_or-set_other σ i j v 0 n) (I.fit j l)

      nil_at : (j : ℕ) → Z j → Dec (j ≡ i) → get_or (set σ i v) j 0 ≡ 0
      nil_at j z (yes e) = dite (dec_lt i (length σ)) (λ l. rw e (get_or-set_same σ i v 0 l ∙ zero-if (rw e at z))) (λ k. let o : length σ ≤ i = omega arith in rw (set_out σ i v o) (I.nil j z))
      nil_at j z (no n) = get_or-set_other σ i j v 0 n ∙ I.nil j z

  agree_set : (W : Cells) (σ : List ℕ) (i v : ℕ) → W i → Agree W σ (set σ i v)
  agree_set W σ i v w j h = get_or-set_other σ i j v 0 (λ e. h (rw e w))

  pub spec_change : (f g : ℕ → ℕ) (i : ℕ) (Z W : Cells) → i < N → W i → (Z i → ⊥)
      → ((x : ℕ) → x < 2 ^ size i → f x < 2 ^ size i) → ((x : ℕ) → x < 2 ^ size i → g (f x) ≡ x) → Spec (change f i) (change g i) Z W
  unfolding change noted holding
  spec_change f g i Z W l w free fits undo c c' I e = rw (← done_same e) (record {
    inv = inv_set Z σ i _ I (fits x (I.fit i l)) (λ z. absurd (free z));
    frame = agree_set W σ i _ w;
    mono = omega arith;
    back = λ c1 q h. record { end = _; run = refl; cell = rw q as_before; lefts = refl };
  })
    where
      σ : List ℕ
      σ = c.memory

      x : ℕ
      x = get_or σ i 0

      as_before : set (set σ i (f x)) i (g (get_or (set σ i (f x)) i 0)) ≡ σ
      as_before = rw (get_or-set_same σ i (f x) 0 (omega (arith, I.count)), set-set, undo x (I.fit i l), set-get_or)

  pub spec_exchange : (condition i j : ℕ) (Z W : Cells) → i < N → j < N → W i → W j → (Z i → ⊥) → (Z j → ⊥) → size i ≡ size j
      → Spec (exchange condition i j) (exchange condition i j) Z W
  unfolding exchange exchanged noted holding
  spec_exchange condition i j Z W li lj wi wj ni nj s c c' I e = rw (← done_same e) (record {
    inv = inv_set Z (set σ i _) j _ (inv_set Z σ i _ I (exchanged-fits (2 ^ size i) condition _ _ (I.fit i li) (rw s (I.fit j lj))) (λ z. absurd (ni z)))
        (exchanged-fits (2 ^ size j) condition _ _ (I.fit j lj) (rw (← s) (I.fit i li))) (λ z. absurd (nj z));
    frame = λ k h. agree_set W (set σ i _) j _ wj k h ∙ agree_set W σ i _ wi k h;
    mono = omega arith;
    back = λ c1 q h. record { end = _; run = refl; cell = rw q (exchanged-back σ i j (rw I.count li) (rw I.count lj) (eqb condition 0)); lefts = refl };
  })
    where
      σ : List ℕ
      σ = c.memory
