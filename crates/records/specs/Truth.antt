-- Tests over numbers: two choices by one test, what is left past a number, a test that holds in a whole range, computed once, and the library's range.
use Rattle.std.specs.Prelude.{◌≡◌, refl, List, ◌∷◌, Bool, true, false, cond, ◌&&◌, ℕ, zero, suc, ◌+◌, ◌≤◌, ◌<◌, eqb}
use Rattle.std.specs.List.{range_with_len}
use Rattle.std.proofs.Common.{ap, ⊎_elim, arith}
use Rattle.std.proofs.lemmas.Bool.{eqb-false, and_parts, cases_eq}
use Rattle.rules.specs.Tree.{range}

-- Two choices by one test are equal if their sides are, where they are taken.
pub same-choice : {A : Type 0} (b : Bool) {x x' y y' : A} → (b ≡ true → x ≡ x') → (b ≡ false → y ≡ y') → cond b x y ≡ cond b x' y'
same-choice true p q = p refl
same-choice false p q = q refl

-- A number from k on that is not k is past it, and the only one left is the last.
pub past : (k x : ℕ) → k ≤ x → eqb x k ≡ false → k + 1 ≤ x
past k x low e = omega (arith, eqb-false x k e)

pub last : (k x : ℕ) → k ≤ x → eqb x k ≡ false → x ≤ k + 1 → x ≡ k + 1
last k x low e high = omega (arith, eqb-false x k e)

-- A test that holds at each of the count numbers from k on.
unfoldable pub every : (ℕ → Bool) → ℕ → ℕ → Bool
every test k zero = true
every test k (suc count) = test k && every test (suc k) count

pub at_every : (test : ℕ → Bool) (k count x : ℕ) → every test k count ≡ true → k ≤ x → x < k + count → test x ≡ true
unfolding every
at_every test k zero x e low high = absurd (omega arith)
at_every test k (suc count) x e low high =
    let p = and_parts (test k) (every test (suc k) count) e in
    ⊎_elim (λ (t : x ≡ k). rw t p.0) (λ (t : x ≡ k → ⊥). at_every test (suc k) count x p.1 (omega arith) (omega arith)) (cases_eq x k)

-- The library's range is the rules'.
pub range_same : (x count : ℕ) → range_with_len x count ≡ range x count
unfolding range
range_same x zero = refl
range_same x (suc count) = let e : x + 1 ≡ suc x = omega arith in rw e (ap (λ (l : List ℕ). x ∷ l) (range_same (suc x) count))
