-- A block and a loop are taken back, where their bodies are: their own cells are 0 before and after, and are the body's to change.
-- Of a loop: the other loop, started at the end, goes on just as it goes on from the beginning.
use Prim.Native.Nat.{ℕ, zero, suc, ◌+◌, ◌^◌, ◌≤◌, ◌<◌}
use mathlib.Core.List.{List}
use Rattle.std.specs.Prelude.{◌≡◌, refl, not, ◌⊎◌, set, T, eqb}
use Rattle.std.proofs.Math.Path.{sym}
use Rattle.std.proofs.Common.{◌∙◌, arith, get_or-set_other, set-set, pow_pos, eqb→eq}
use Rattle.std.proofs.Math.Logic.{⊎_elim}
use Rattle.std.proofs.Math.Decide.{ℕ_discrete}
use Rattle.std.proofs.Math.ListN.{length, get_or, length-set}
use Rattle.std.proofs.Math.Seq.{get_or-set_same}
use Rattle.std.proofs.lemmas.List.{set-get_or}
use Rattle.rules.specs.Machine.{State, done, stop, Command, holding, step, next, both, put, left_first, turns_of, counted}
use Rattle.laws.specs.Commands.{stopped_done, done_same, next-done, next-run, stepped, step-done, positive, choose-done, choose-passed, turn_run, turns-end}
use Rattle.laws.specs.Spec.{Cells, Agree, Inv, Spec, inv_set}

set_back : (σ : List ℕ) (i v w : ℕ) → get_or σ i 0 ≡ v → set (set σ i w) i v ≡ σ
set_back σ i v w e = set-set σ i w v ∙ rw (← e) (set-get_or σ i 0)

module _ (N : ℕ) (size : ℕ → ℕ) where
  -- The declared cells D are 0 before the body f and, by the test k, after it.
  pub spec_block : (f g k : Command) (Z Z' W W' D : Cells)
      → ((c c' : State) → k c ≡ done c' → (c ≡ c') × ((i : ℕ) → D i → get_or c.memory i 0 ≡ 0))
      → ((c : State) → ((i : ℕ) → D i → get_or c.memory i 0 ≡ 0) → k c ≡ done c)
      → ((i : ℕ) → D i ⊎ (D i → ⊥)) → ((i : ℕ) → Z' i → Z i) → ((i : ℕ) → Z i → (D i → ⊥) → Z' i) → ((i : ℕ) → D i → Z i)
      → ((i : ℕ) → W' i → (D i → ⊥) → W i)
      → Spec N size f g Z' W' → Spec N size (both f k) (both g k) Z W
  unfolding both
  spec_block f g k Z Z' W W' D k-done k-run decided Z'Z ZZ' DZ WW F c c' I e =
      let b = next-done (f c) k c' e in
      let P = F c b.0 (record { count = I.count; fit = I.fit; nil = λ i z. I.nil i (Z'Z i z) }) b.1 in
      let q = k-done b.0 c' b.2 in
      rw (← q.0) (record {
        inv = record {
          count = P.inv.count;
          fit = P.inv.fit;
          nil = λ i z. ⊎_elim (λ d. q.1 i d) (λ nd. P.inv.nil i (ZZ' i z nd)) (decided i);
        };
        frame = λ i h. ⊎_elim (λ d. q.1 i d ∙ sym (I.nil i (DZ i d))) (λ nd. P.frame i (λ w. h (WW i w nd))) (decided i);
        mono = P.mono;
        back = λ c1 r h.
            let B = P.back c1 r h in
            record {
              end = B.end;
              run = next-run (g c1) k B.end B.run ∙ k-run B.end (λ i d. rw B.cell (I.nil i (DZ i d)));
              cell = B.cell;
              lefts = B.lefts;
            };
      })

  -- Turns of a loop from c to c', and their way back.
  pub record Turned (n i first second : ℕ) (g : Command) (Z W : Cells) (c c' : State) : Type 0 where
    pub inv : Inv N size Z c'.memory
    pub frame : Agree W c.memory c'.memory
    pub mono : c'.left ≤ c.left
    pub at : get_or c'.memory i 0 ≡ second
    pub back : (turns : ℕ) (c1 : State) → c1.memory ≡ c'.memory → c1.left ≤ turns → c.left ≤ c1.left + c'.left
        → (rest : ℕ) × (c2 : State) × (turns_of turns n i second first g c1 ≡ turns_of rest n i second first g c2) × (c2.memory ≡ c.memory) × (c2.left ≤ rest)
        × (c2.left + c.left ≡ c1.left + c'.left)

  module _ (n i first second : ℕ) (f g : Command) (Z W : Cells) (F : Spec N size f g Z W) where
    turned_none : (c c' : State) → Inv N size Z c.memory → T (eqb (get_or c.memory i 0) second) → done c ≡ done c' → Turned n i first second g Z W c c'
    turned_none c c' I t e = rw (← done_same e) (record {
      inv = I;
      frame = λ j h. refl;
      mono = omega arith;
      at = eqb→eq _ _ t;
      back = λ k c1 q h l. (k, c1, refl, q, h, refl);
    })

    turned-one : (turns : ℕ) (rest : (c c' : State) → Inv N size Z c.memory → turns_of turns n i first second f c ≡ done c' → Turned n i first second g Z W c c')
        → (c c' : State) → Inv N size Z c.memory → T (not (eqb (get_or c.memory i 0) second))
        → step n (both f (left_first n i first (turns_of turns n i first second f))) c ≡ done c' → Turned n i first second g Z W c c'
    unfolding step both left_first
    turned-one turns rest c c' I t e =
        let b1 = step-done c.left n (both f (left_first n i first (turns_of turns n i first second f))) c c' e in
        let c0 = stepped n b1.0 c in
        let b2 = next-done (f c0) (left_first n i first (turns_of turns n i first second f)) c' b1.2 in
        let m = b2.0 in
        let b3 = choose-passed (eqb (get_or m.memory i 0) first) 28 n (turns_of turns n i first second f) m c' b2.2 in
        let P = F c0 m I b2.1 in
        let R = rest m c' P.inv b3.1 in
        record {
          inv = R.inv;
          frame = λ j h. R.frame j h ∙ P.frame j h;
          mono = omega (arith, R.mono, P.mono, b1.1);
          at = R.at;
          back = λ k1 c1 q h l.
              let r = R.back k1 c1 q h (omega (arith, P.mono, b1.1)) in
              let p = positive r.1.left (omega (arith, P.mono, b1.1, r.5)) in
              let kp = positive r.0 (omega (arith, r.4, p.1)) in
              let B = P.back (stepped n p.0 r.1) r.3 (omega (arith, r.5, b1.1, p.1)) in (
                kp.0,
                B.end,
                r.2 ∙ turn_run r.0 kp.0 n i second first g r.1 p.0 B.end kp.1 p.1 (rw r.3 b3.0) B.run (rw B.cell t),
                B.cell,
                omega (arith, B.lefts, P.mono, kp.1, p.1, r.4),
                omega (arith, B.lefts, r.5, b1.1, p.1),
              );
        }

    turned : (turns : ℕ) (c c' : State) → Inv N size Z c.memory → turns_of turns n i first second f c ≡ done c' → Turned n i first second g Z W c c'
    unfolding turns_of
    turned zero c c' I e = ⊎_elim (λ h. turned_none c c' I h.0 h.1) (λ h. absurd (stopped_done h.1))
        (choose-done (eqb (get_or c.memory i 0) second) done (stop 23 n) c c' e)
    turned (suc turns) c c' I e = ⊎_elim (λ h. turned_none c c' I h.0 h.1) (λ h. turned-one turns (turned turns) c c' I h.0 h.1)
        (choose-done (eqb (get_or c.memory i 0) second) done (step n (both f (left_first n i first (turns_of turns n i first second f)))) c c' e)

  -- A whole loop, whose counter lives in cell i.
  pub spec_counted : (n i first second : ℕ) (f g : Command) (Z Z' W W' : Cells) → i < N → Z i → (Z' i → ⊥)
      → ((j : ℕ) → Z' j → Z j) → ((j : ℕ) → Z j → (j ≡ i → ⊥) → Z' j) → ((j : ℕ) → W' j → (j ≡ i → ⊥) → W j) → first < 2 ^ size i
      → Spec N size f g Z' W' → Spec N size (counted n i first second f) (counted n i second first g) Z W
  unfolding counted both put next holding
  spec_counted n i first second f g Z Z' W W' li zi free Z'Z ZZ' WW fits F c c' I e =
      let c0 = holding (set c.memory i first) c in
      let b1 = next-done (turns_of c.left n i first second f c0) (put i 0) c' e in
      let m = b1.0 in
      let I0 : Inv N size Z' c.memory = record { count = I.count; fit = I.fit; nil = λ j z. I.nil j (Z'Z j z) } in
      let R = turned n i first second f g Z' W' F c.left c0 m (inv_set N size Z' c.memory i first I0 fits (λ z. absurd (free z))) b1.1 in
      rw (← done_same b1.2) (record {
        inv = record {
          count = length-set m.memory i 0 ∙ R.inv.count;
          fit = λ j l. fit_at m.memory R.inv.count R.inv.fit j l (ℕ_discrete j i);
          nil = λ j z. nil_at m.memory R.inv.count j (λ ne. R.inv.nil j (ZZ' j z ne)) (ℕ_discrete j i);
        };
        frame = λ j h. frame_at m.memory R.inv.count j (λ ne. R.frame j (λ w. h (WW j w ne))) (ℕ_discrete j i);
        mono = R.mono;
        back = λ c1 q h.
            let d0 = holding (set c1.memory i second) c1 in
            let r = R.back d0.left d0 (rw q (set_back m.memory i second 0 R.at)) (omega arith) h in
            let at-end = turns-end r.0 n i second first g r.1 (rw r.3 (get_or-set_same c.memory i first 0 (rw I.count li))) in
            record {
              end = holding (set r.1.memory i 0) r.1;
              run = next-run (turns_of c1.left n i second first g d0) (put i 0) r.1 (r.2 ∙ at-end);
              cell = rw r.3 (set_back c.memory i 0 first (I.nil i zi));
              lefts = r.5;
            };
      })
    where
      fit_at : (τ : List ℕ) → length τ ≡ N → ((j : ℕ) → j < N → get_or τ j 0 < 2 ^ size j) → (j : ℕ) → j < N → Dec (j ≡ i) → get_or (set τ i 0) j 0 < 2 ^ size j
      fit_at τ lt h j l (yes e) = rw (e, get_or-set_same τ i 0 0 (rw lt li)) (pow_pos (size i))
      fit_at τ lt h j l (no n) = rw (get_or-set_other τ i j 0 0 n) (h j l)

      nil_at : (τ : List ℕ) → length τ ≡ N → (j : ℕ) → ((j ≡ i → ⊥) → get_or τ j 0 ≡ 0) → Dec (j ≡ i) → get_or (set τ i 0) j 0 ≡ 0
      nil_at τ lt j h (yes e) = rw e (get_or-set_same τ i 0 0 (rw lt li))
      nil_at τ lt j h (no n) = get_or-set_other τ i j 0 0 n ∙ h n

      frame_at : (τ : List ℕ) → length τ ≡ N → (j : ℕ) → ((j ≡ i → ⊥) → get_or τ j 0 ≡ get_or (set c.memory i first) j 0) → Dec (j ≡ i) → get_or (set τ i 0) j 0 ≡ get_or c.memory j 0
      frame_at τ lt j h (yes e) = rw e (get_or-set_same τ i 0 0 (rw lt li) ∙ sym (I.nil i zi))
      frame_at τ lt j h (no n) = get_or-set_other τ i j 0 0 n ∙ h n ∙ get_or-set_other c.memory i j first 0 n
