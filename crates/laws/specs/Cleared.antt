-- The tests at a block's end: both pass just where all cells of the block's names are 0.
use Rattle.std.specs.Prelude.{ℕ, zero, suc, ◌+◌, ◌≤◌, ◌<◌, List, [], ◌∷◌, ◌≡◌, Bool, not, cond, ◌||◌, ◌⊎◌, get_or, T, eqb}
use Rattle.std.proofs.Common.{◌∙◌, inl, inr, arith, eqb→eq}
use Rattle.std.proofs.Math.Bool.{true, false}
use Rattle.std.proofs.Math.Logic.{⊎_elim, dite}
use Rattle.std.proofs.Math.Decide.{ℕ_discrete}
use Rattle.std.proofs.Math.Dec.{eqb_refl}
use Rattle.rules.specs.Tree.{member}
use Rattle.rules.specs.Machine.{Env, State, done, stop, choose, zeros, cleared, block_end}
use Rattle.laws.specs.Verdicts.{and_left, and_right, both_hold, or_right, member-here, member-there, member-cases, member-none}
use Rattle.laws.specs.Cells.{In, in_decided}
use Rattle.laws.specs.Commands.{stopped_done, done_same, choose-done, choose_yes}

-- The cells of the names for which the test holds.
abbrev pub Named : Env → (ℕ → Bool) → ℕ → Type 0
Named ρ p i = (x : ℕ) × T (p x) × In (ρ x) i

abbrev pub Zero : List ℕ → (ℕ → Type 0) → Type 0
Zero σ D = (i : ℕ) → D i → get_or σ i 0 ≡ 0

zeros-read : (σ : List ℕ) (b n : ℕ) → T (zeros σ b n) → (i : ℕ) → b ≤ i → i < b + n → get_or σ i 0 ≡ 0
unfolding zeros
zeros-read σ b zero t i l h = absurd (omega arith)
zeros-read σ b (suc n) t i l h = dite (ℕ_discrete b i)
    (λ e. rw e at (eqb→eq (get_or σ b 0) 0 (and_left (eqb (get_or σ b 0) 0) (zeros σ (suc b) n) t)))
    (λ ne. zeros-read σ (suc b) n (and_right (eqb (get_or σ b 0) 0) (zeros σ (suc b) n) t) i (omega arith) (omega arith))

zeros-hold : (σ : List ℕ) (b n : ℕ) → ((i : ℕ) → b ≤ i → i < b + n → get_or σ i 0 ≡ 0) → T (zeros σ b n)
unfolding zeros
zeros-hold σ b zero h = tt
zeros-hold σ b (suc n) h = both_hold (eqb (get_or σ b 0) 0) (zeros σ (suc b) n) (rw (h b (omega arith) (omega arith)) (eqb_refl 0))
    (zeros-hold σ (suc b) n (λ i l m. h i (omega arith) (omega arith)))

-- Of the tests for public and for secret names, one tests this name.
tested : (hidden all : Bool) → T (cond false (not hidden) hidden || all) → T (cond true (not hidden) hidden || all) → T all
tested true all s t = t
tested false all s t = s

cleared-read : (ρ : Env) (xs σ : List ℕ) → T (cleared false ρ xs σ) → T (cleared true ρ xs σ) → Zero σ (Named ρ (λ x. member x xs))
unfolding cleared
cleared-read ρ [] σ s t i h = absurd (member-none h.0 h.1)
cleared-read ρ (y ∷ ys) σ s t i h = ⊎_elim
    (λ e. let m : In (ρ y) i = rw e at h.2 in
    zeros-read σ (ρ y).base (ρ y).cells (tested (ρ y).hidden (zeros σ (ρ y).base (ρ y).cells)
    (and_left ((ρ y).hidden || zeros σ (ρ y).base (ρ y).cells) (cleared false ρ ys σ) s)
    (and_left (not (ρ y).hidden || zeros σ (ρ y).base (ρ y).cells) (cleared true ρ ys σ) t)) i m.0 m.1)
    (λ q. cleared-read ρ ys σ
    (and_right ((ρ y).hidden || zeros σ (ρ y).base (ρ y).cells) (cleared false ρ ys σ) s)
    (and_right (not (ρ y).hidden || zeros σ (ρ y).base (ρ y).cells) (cleared true ρ ys σ) t) i (h.0, q, h.2))
    (member-cases h.0 y ys h.1)

cleared-hold : (secrecy : Bool) (ρ : Env) (xs σ : List ℕ) → Zero σ (Named ρ (λ x. member x xs)) → T (cleared secrecy ρ xs σ)
unfolding cleared
cleared-hold secrecy ρ [] σ h = tt
cleared-hold secrecy ρ (y ∷ ys) σ h = both_hold (cond secrecy (not (ρ y).hidden) (ρ y).hidden || zeros σ (ρ y).base (ρ y).cells) (cleared secrecy ρ ys σ)
    (or_right (cond secrecy (not (ρ y).hidden) (ρ y).hidden) (zeros σ (ρ y).base (ρ y).cells)
    (zeros-hold σ (ρ y).base (ρ y).cells (λ i l m. h i (y, member-here y ys, (l, m)))))
    (cleared-hold secrecy ρ ys σ (λ i m. h i (m.0, member-there m.0 y ys m.1, m.2)))

module _ (n : ℕ) (ρ : Env) (xs : List ℕ) where
  pub block_end-done : (c c' : State) → block_end n ρ xs c ≡ done c' → (c ≡ c') × Zero c.memory (Named ρ (λ x. member x xs))
  unfolding block_end
  block_end-done c c' e = ⊎_elim
      (λ h. ⊎_elim (λ k. (done_same k.1, cleared-read ρ xs c.memory h.0 k.0)) (λ k. absurd (stopped_done k.1))
      (choose-done (cleared true ρ xs c.memory) done (stop 27 n) c c' h.1))
      (λ h. absurd (stopped_done h.1))
      (choose-done (cleared false ρ xs c.memory) (choose (cleared true ρ xs c.memory) done (stop 27 n)) (stop 26 n) c c' e)

  pub block_end-run : (c : State) → Zero c.memory (Named ρ (λ x. member x xs)) → block_end n ρ xs c ≡ done c
  unfolding block_end
  block_end-run c h =
      choose_yes (cleared false ρ xs c.memory) (choose (cleared true ρ xs c.memory) done (stop 27 n)) (stop 26 n) c (cleared-hold false ρ xs c.memory h)
      ∙ choose_yes (cleared true ρ xs c.memory) done (stop 27 n) c (cleared-hold true ρ xs c.memory h)

pub named-decided : (ρ : Env) (xs : List ℕ) (i : ℕ) → Named ρ (λ x. member x xs) i ⊎ (Named ρ (λ x. member x xs) i → ⊥)
named-decided ρ [] i = inr (λ h. member-none h.0 h.1)
named-decided ρ (y ∷ ys) i = ⊎_elim (λ m. inl (y, member-here y ys, m))
    (λ k. ⊎_elim (λ h. inl (h.0, member-there h.0 y ys h.1, h.2))
    (λ r. inr (λ h. ⊎_elim (λ e. k (rw e at h.2)) (λ q. r (h.0, q, h.2)) (member-cases h.0 y ys h.1)))
    (named-decided ρ ys i))
    (in_decided (ρ y) i)
