-- What holds of whatever is found.
use Rattle.std.specs.Prelude.{ℕ, List}
use Rattle.rules.specs.Machine.{Found, found, fault, after, and_then}

unfoldable pub Each : {A : Type 0} → (A → Type 0) → Found A → Type 0
Each P (found v t) = P v
Each P (fault k n t) = Unit

each_after : {A : Type 0} (P : A → Type 0) (t : List ℕ) (F : Found A) → Each P F → Each P (after t F)
unfolding Each after
each_after P t (found v u) e = e
each_after P t (fault k n u) e = tt

pub each_then : {A B : Type 0} (P : A → Type 0) (Q : B → Type 0) (F : Found A) (f : A → Found B) → Each P F → ((v : A) → P v → Each Q (f v)) → Each Q (and_then F f)
unfolding Each and_then
each_then P Q (found v t) f e go = each_after Q t (f v) (go v e)
each_then P Q (fault k n t) f e go = tt

pub each_any : {A : Type 0} (F : Found A) → Each (λ v. Unit {0}) F
unfolding Each
each_any (found v t) = tt
each_any (fault k n t) = tt
