-- The arguments of a call against the parameters of its procedure.
use Prim.Native.Nat.{ℕ, suc, ◌+◌, ◌-◌, ◌≤◌, ◌<◌}
use Rattle.std.specs.Prelude.{◌≡◌, List, [], ◌∷◌, Bool, true, false, ◌&&◌, eqb, length}
use Rattle.std.proofs.Common.{sym, ◌∙◌}
use native.Mathlib.Omega.{arith}
use Rattle.std.proofs.Math.Bool.{and-true, and-false}
use Rattle.std.proofs.lemmas.Bool.{ne_eqb}
use Rattle.std.proofs.lemmas.Bool.Decides.{nat_tests}
use Rattle.std.proofs.Math.Dec.{eqb-suc-suc}
use Rattle.rules.specs.Image.{Parts, is_array}
use Rattle.rules.specs.Tree as tree
use Rattle.rules.specs.Tree.{root}
use Rattle.rules.specs.Walk.{type_of, same_type, same, passes_array, arguments_fit}

-- The arguments are as many as the parameters from y to the end, and each fits its own.
unfoldable pub fitting : Parts → ℕ → ℕ → List tree.LValue → Bool
fitting s y end ls = eqb (length ls) (end - y) && arguments_fit s y ls

module _ (s : Parts) (y end : ℕ) where
  pub fit_none : y ≤ end → eqb y end ≡ fitting s y end []
  unfolding arguments_fit fitting
  fit_none l = let e : eqb y end ≡ eqb 0 (end - y) = grind (arith, nat_tests) in e ∙ sym (and-true (eqb 0 (end - y)))

module _ (s : Parts) (l : tree.LValue) (ls : List tree.LValue) (y end : ℕ) where
  pub fit_many : y ≡ end → false ≡ fitting s y end (l ∷ ls)
  unfolding fitting
  fit_many e = let k : end - y ≡ 0 = omega arith in rw (ne_eqb (suc (length ls)) (end - y) (λ z. absurd (omega (arith, z))))

  module _ {t : Bool} (g : t ≡ (same_type (type_of s (root l)) (type_of s y) && same (passes_array s l) (is_array (type_of s y)))) where
    pub fit_stops : t ≡ false → false ≡ fitting s y end (l ∷ ls)
    unfolding arguments_fit fitting
    fit_stops e = rw (← g, e) (sym (and-false (eqb (suc (length ls)) (end - y))))

    pub fit_goes : {r : Bool} → t ≡ true → y < end → r ≡ fitting s (y + 1) end ls → r ≡ fitting s y end (l ∷ ls)
    unfolding arguments_fit fitting
    fit_goes e k f =
        let a : end - y ≡ suc (end - (y + 1)) = omega arith in
        let b : y + 1 ≡ suc y = omega arith in
        f ∙ rw (← g, e, a, eqb-suc-suc (length ls) (end - (y + 1)), ← b)
