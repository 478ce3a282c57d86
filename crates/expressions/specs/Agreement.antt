-- What is worked out depends on the names of a tree alone: two environments that agree on a range of names agree on every tree within it.
use Rattle.std.specs.Prelude.{ℕ, ◌≤◌, ◌<◌, ◌≡◌, Bool}
use Rattle.std.proofs.Math.Path.{refl}
use mathlib.Core.List.{List, [], ◌∷◌}
use Rattle.std.proofs.Math.Bool.{true, false}
use Rattle.rules.specs.Words.{Direction, Update}
use Rattle.rules.specs.Tree.{Expr, number, constant, variable, element, size, binary, unary, LValue, whole, entry, root}
use Rattle.rules.specs.Machine.{Env, State, eval, address, lent, arguments, cleared, block_end}
use Rattle.expressions.specs.Names.{In, WithinE, WithinL, WithinLs, WithinXs}
use Rattle.expressions.specs.Commands.{updating, exchanging, exchanging_if}

module _ (ρ ρ' : Env) (lo hi : ℕ) (same : (y : ℕ) → lo ≤ y → y < hi → ρ y ≡ ρ' y) where
  same_in : (x : ℕ) → In lo hi x → ρ x ≡ ρ' x
  same_in x i = same x i.low i.high

  module _ (σ : List ℕ) where
    pub eval-same : (e : Expr) → WithinE lo hi e → eval ρ σ e ≡ eval ρ' σ e
    unfolding eval WithinE
    eval-same (number n v) w = refl
    eval-same (constant n x v) w = refl
    eval-same (variable n x) w = rw (same_in x w)
    eval-same (element n u x e) w = rw (same_in x w.0, eval-same e w.1)
    eval-same (size n x) w = rw (same_in x w)
    eval-same (binary n o a b) w = simp (eval-same a w.0, eval-same b w.1)
    eval-same (unary n o a) w = rw (eval-same a w)

    pub address_same : (l : LValue) → WithinL lo hi l → address ρ σ l ≡ address ρ' σ l
    unfolding address WithinL
    address_same (whole n x) w = rw (same_in x w)
    address_same (entry n u x e) w = rw (same_in x w.0, eval-same e w.1)

    pub lent_same : (l : LValue) → WithinL lo hi l → (i : ℕ) → lent ρ l i ≡ lent ρ' l i
    unfolding lent WithinL
    lent_same (whole n x) w i = rw (same_in x w)
    lent_same (entry n u x e) w i = rw (same_in x w.0)

    pub arguments-same : (ls : List LValue) → WithinLs lo hi ls → arguments ρ σ ls ≡ arguments ρ' σ ls
    unfolding arguments WithinLs
    arguments-same [] w = refl
    arguments-same (l ∷ ls) w = simp (address_same l w.0, arguments-same ls w.1, lent_same l w.0)

    pub cleared-same : (secrecy : Bool) (xs : List ℕ) → WithinXs lo hi xs → cleared secrecy ρ xs σ ≡ cleared secrecy ρ' xs σ
    unfolding cleared WithinXs
    cleared-same secrecy [] w = refl
    cleared-same secrecy (x ∷ xs) w = rw (same_in x w.0, cleared-same secrecy xs w.1)

  root-same : (l : LValue) → WithinL lo hi l → ρ (root l) ≡ ρ' (root l)
  unfolding root WithinL
  root-same (whole n x) w = same_in x w
  root-same (entry n u x e) w = same_in x w.0

  module _ (l : LValue) (w : WithinL lo hi l) where
    address-alike : (σ : List ℕ) → address ρ σ l ≡ address ρ' σ l
    address-alike σ = address_same σ l w

  module _ (e : Expr) (w : WithinE lo hi e) where
    eval-alike : (σ : List ℕ) → eval ρ σ e ≡ eval ρ' σ e
    eval-alike σ = eval-same σ e w

  pub updating-same : (d : Direction) (o : Update) (l : LValue) (e : Expr) → WithinL lo hi l → WithinE lo hi e → updating ρ d o l e ≡ updating ρ' d o l e
  unfolding updating
  updating-same d o l e w v = simp (address-alike l w, eval-alike e v, root-same l w)

  pub exchanging-same : (l m : LValue) → WithinL lo hi l → WithinL lo hi m → (v : ℕ) → exchanging ρ v l m ≡ exchanging ρ' v l m
  unfolding exchanging
  exchanging-same l m w w' v = simp (address-alike l w, address-alike m w')

  pub exchanging_if-same : (e : Expr) (l m : LValue) → WithinE lo hi e → WithinL lo hi l → WithinL lo hi m → exchanging_if ρ e l m ≡ exchanging_if ρ' e l m
  unfolding exchanging_if
  exchanging_if-same e l m v w w' = simp (eval-alike e v, exchanging-same l m w w')

  pub block_end-same : (n : ℕ) (xs : List ℕ) → WithinXs lo hi xs → (c : State) → block_end n ρ xs c ≡ block_end n ρ' xs c
  unfolding block_end
  block_end-same n xs w c = rw (cleared-same c.memory false xs w, cleared-same c.memory true xs w)
