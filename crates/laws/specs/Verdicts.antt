-- Accepted verdicts read backwards: an accepted chain accepts each of its parts, and an accepted part says that its test was passed.
-- A test is read as a type, `T test` or `T (not test)`; a verdict is accepted when its number is 0.
use Rattle.std.specs.Prelude.{ℕ, zero, suc, ◌+◌, ◌≤◌, ◌<◌, List, [], ◌∷◌, ◌++◌, ◌≡◌, refl, Bool, true, false, not, cond, ◌&&◌, ◌||◌, ◌⊎◌, ◌↔◌, length, get_or, T, eqb}
use Rattle.std.proofs.Common.{◌∙◌, ap, inl, inr, ⊎_elim, arith, eqb→eq, T_not}
use Rattle.std.proofs.Math.Logic.{dite}
use Rattle.std.proofs.Math.Decide.{ℕ_discrete, dec_lt}
use Rattle.std.proofs.Math.Dec.{eqb_refl, not_T}
use Rattle.rules.specs.Form.{Verdict, accepted, given, ◌then◌, search, lowest}
use Rattle.rules.specs.Tree.{member, range}
use Rattle.rules.specs.Walk.{every, share, repeats, same}

-- ---- tests

pub and_left : (a b : Bool) → T (a && b) → T a
and_left true b t = tt
and_left false b t = absurd t

pub and_right : (a b : Bool) → T (a && b) → T b
and_right true b t = t
and_right false b t = absurd t

pub both_hold : (a b : Bool) → T a → T b → T (a && b)
both_hold true b s t = t
both_hold false b s t = absurd s

-- `simp and_iff at t` takes a whole conjunction apart.
pub and_iff : (a b : Bool) → T (a && b) ↔ (T a × T b)
and_iff a b = ((λ t. (and_left a b t, and_right a b t)), (λ p. both_hold a b p.0 p.1))

pub or_cases : (a b : Bool) → T (a || b) → T a ⊎ T b
or_cases true b t = inl tt
or_cases false b t = inr t

pub or_left : (a b : Bool) → T a → T (a || b)
or_left true b t = tt
or_left false b t = absurd t

pub or_right : (a b : Bool) → T b → T (a || b)
or_right true b t = tt
or_right false b t = t

-- Neither of two.
pub nor_left : (a b : Bool) → T (not (a || b)) → T (not a)
nor_left true b t = t
nor_left false b t = tt

pub nor_right : (a b : Bool) → T (not (a || b)) → T (not b)
nor_right true b t = absurd t
nor_right false b t = t

pub not_twice : (a : Bool) → T (not (not a)) → T a
not_twice true t = tt
not_twice false t = t

-- A test that holds, or that does not, is the constant.
pub is_true : (a : Bool) → T a → a ≡ true
is_true true t = refl
is_true false t = absurd t

pub is_false : (a : Bool) → T (not a) → a ≡ false
is_false true t = absurd t
is_false false t = refl

pub decided : (a : Bool) → T a ⊎ T (not a)
decided true = inl tt
decided false = inr tt

-- A choice is as each of its sides is where it is taken.
pub either : {A : Type 0} (P : A → Type 0) (b : Bool) (x y : A) → (T b → P x) → (T (not b) → P y) → P (cond b x y)
either P true x y h k = h tt
either P false x y h k = k tt

pub same-equal : (a b : Bool) → T (same a b) → a ≡ b
unfolding same
same-equal true true t = refl
same-equal true false t = absurd t
same-equal false true t = absurd t
same-equal false false t = refl

pub unequal_test : (m n : ℕ) → (m ≡ n → ⊥) → T (not (eqb m n))
unequal_test m n h = not_T (eqb m n) (λ t. h (eqb→eq m n t))

pub equal_test : (m n : ℕ) → m ≡ n → T (eqb m n)
equal_test m n e = rw e (eqb_refl n)

-- ---- verdicts

abbrev pub Accepted : Verdict → Type 0
Accepted v = v.number ≡ 0

pub accepted-accepted : Accepted accepted
accepted-accepted = refl

-- A refusal that is not given: its test was not broken.
pub given-passed : (number place : ℕ) (broken : Bool) → 0 < number → Accepted (given number place broken) → T (not broken)
unfolding given
given-passed number place true some e = absurd (omega arith)
given-passed number place false some e = tt

pub given-none : (number place : ℕ) (broken : Bool) → T (not broken) → given number place broken ≡ accepted
unfolding given
given-none number place true t = absurd t
given-none number place false t = refl

-- The same for a test that is written with `not`.
pub given_holds : (number place : ℕ) (fits : Bool) → 0 < number → Accepted (given number place (not fits)) → T fits
given_holds number place fits some e = not_twice fits (given-passed number place (not fits) some e)

pub given-fits : (number place : ℕ) (fits : Bool) → T fits → given number place (not fits) ≡ accepted
unfolding given
given-fits number place true t = refl
given-fits number place false t = absurd t

chosen_first : (b : Bool) (v w : Verdict) → (T b → v.number ≡ 0) → (T (not b) → v.number ≡ 0 → ⊥) → (cond b w v).number ≡ 0 → (v.number ≡ 0) × (w.number ≡ 0)
chosen_first true v w zero-first other e = (zero-first tt, e)
chosen_first false v w zero-first other e = absurd (other tt e)

-- An accepted chain accepts its first part and its rest.
pub then_both : (v w : Verdict) → Accepted (v then w) → Accepted v × Accepted w
unfolding ◌then◌
then_both v w e = chosen_first (eqb v.number 0) v w (λ t. eqb→eq v.number 0 t) (λ t z. T_not (eqb v.number 0) t (equal_test v.number 0 z)) e

pub then_first : (v w : Verdict) → Accepted (v then w) → Accepted v
then_first v w e = (then_both v w e).0

pub then_rest : (v w : Verdict) → Accepted (v then w) → Accepted w
then_rest v w e = (then_both v w e).1

-- A chain whose first part is accepted is its rest.
pub then_passed : (v w : Verdict) → Accepted v → (v then w) ≡ w
unfolding ◌then◌
then_passed v w e = rw (is_true (eqb v.number 0) (equal_test v.number 0 e))

pub then_accepted : (v w : Verdict) → Accepted v → Accepted w → Accepted (v then w)
then_accepted v w e f = ap (λ (u : Verdict). u.number) (then_passed v w e) ∙ f

-- `simp then_iff at e` takes a whole chain apart.
pub then_iff : (v w : Verdict) → Accepted (v then w) ↔ (Accepted v × Accepted w)
then_iff v w = (then_both v w, (λ p. then_accepted v w p.0 p.1))

-- ---- the lowest place

pub search-from : (passes : ℕ → Bool) (i count : ℕ) → i ≤ search passes i count
unfolding search
search-from passes i zero = omega arith
search-from passes i (suc count) = go (passes i) (search-from passes (suc i) count)
  where
    go : (b : Bool) → suc i ≤ search passes (suc i) count → i ≤ cond b (search passes (suc i) count) i
    go true h = omega arith
    go false h = omega arith

pub search-to : (passes : ℕ → Bool) (i count : ℕ) → search passes i count ≤ i + count
unfolding search
search-to passes i zero = omega arith
search-to passes i (suc count) = go (passes i) (search-to passes (suc i) count)
  where
    go : (b : Bool) → search passes (suc i) count ≤ suc i + count → cond b (search passes (suc i) count) i ≤ i + suc count
    go true h = omega arith
    go false h = omega arith

-- Every place before the one that is found passes.
pub search-before : (passes : ℕ → Bool) (i count j : ℕ) → i ≤ j → j < search passes i count → T (passes j)
unfolding search
search-before passes i zero j l h = absurd (omega arith)
search-before passes i (suc count) j l h = go (passes i) refl h (search-before passes (suc i) count j)
  where
    go : (b : Bool) → passes i ≡ b → j < cond b (search passes (suc i) count) i → (suc i ≤ j → j < search passes (suc i) count → T (passes j)) → T (passes j)
    go true e m rest = dite (ℕ_discrete i j) (λ q. rw (← q, e) tt) (λ q. rest (omega arith) m)
    go false e m rest = absurd (omega arith)

-- The place that is found fails.
pub search-found : (passes : ℕ → Bool) (i count : ℕ) → search passes i count < i + count → T (not (passes (search passes i count)))
unfolding search
search-found passes i zero h = absurd (omega arith)
search-found passes i (suc count) h = go (passes i) refl h (search-found passes (suc i) count)
  where
    go : (b : Bool) → passes i ≡ b → cond b (search passes (suc i) count) i < i + suc count
        → (search passes (suc i) count < suc i + count → T (not (passes (search passes (suc i) count)))) → T (not (passes (cond b (search passes (suc i) count) i)))
    go true e m rest = rest (omega arith)
    go false e m rest = rw e tt

-- Where every place passes, none is found.
pub search-none : (passes : ℕ → Bool) (i count : ℕ) → ((j : ℕ) → i ≤ j → j < i + count → T (passes j)) → search passes i count ≡ i + count
search-none passes i count all =
    let to = search-to passes i count in
    dite (ℕ_discrete (search passes i count) (i + count)) (λ e. e)
    (λ ne. let h : search passes i count < i + count = omega arith in
    absurd (T_not (passes (search passes i count)) (search-found passes i count h) (all (search passes i count) (search-from passes i count) h)))

-- The lowest place that fails is the one that is found.
pub search_is : (passes : ℕ → Bool) (i count j : ℕ) → i ≤ j → j < i + count → ((k : ℕ) → i ≤ k → k < j → T (passes k)) → T (not (passes j)) → search passes i count ≡ j
search_is passes i count j l h before fails =
    let from = search-from passes i count in
    dite (dec_lt j (search passes i count)) (λ above. absurd (T_not (passes j) fails (search-before passes i count j l above)))
    (λ no_above. dite (dec_lt (search passes i count) j)
    (λ under. absurd (T_not (passes (search passes i count)) (search-found passes i count (omega arith)) (before (search passes i count) from under)))
    (λ no-under. omega arith))

pub lowest-passed : (number : ℕ) (passes : ℕ → Bool) (i count : ℕ) → 0 < number → Accepted (lowest number passes i count)
    → (j : ℕ) → i ≤ j → j < i + count → T (passes j)
unfolding lowest
lowest-passed number passes i count some e j l h =
    let q = eqb→eq (search passes i count) (i + count) (given_holds number (search passes i count) (eqb (search passes i count) (i + count)) some e) in
    search-before passes i count j l (omega arith)

pub lowest-none : (number : ℕ) (passes : ℕ → Bool) (i count : ℕ) → ((j : ℕ) → i ≤ j → j < i + count → T (passes j)) → lowest number passes i count ≡ accepted
unfolding lowest
lowest-none number passes i count all =
    given-fits number (search passes i count) (eqb (search passes i count) (i + count)) (equal_test (search passes i count) (i + count) (search-none passes i count all))

-- ---- lists of names

pub member-here : (x : ℕ) (xs : List ℕ) → T (member x (x ∷ xs))
unfolding member
member-here x xs = or_left (eqb x x) (member x xs) (eqb_refl x)

pub member-there : (x y : ℕ) (xs : List ℕ) → T (member x xs) → T (member x (y ∷ xs))
unfolding member
member-there x y xs t = or_right (eqb x y) (member x xs) t

pub member-cases : (x y : ℕ) (xs : List ℕ) → T (member x (y ∷ xs)) → (x ≡ y) ⊎ T (member x xs)
unfolding member
member-cases x y xs t = ⊎_elim (λ q. inl (eqb→eq x y q)) (λ q. inr q) (or_cases (eqb x y) (member x xs) t)

pub member-none : (x : ℕ) → T (member x []) → ⊥
unfolding member
member-none x t = t

pub member-one : (x y : ℕ) → T (member x (y ∷ [])) → x ≡ y
member-one x y t = ⊎_elim (λ e. e) (λ q. absurd (member-none x q)) (member-cases x y [] t)

pub member-append : (x : ℕ) (xs ys : List ℕ) → member x (xs ++ ys) ≡ (member x xs || member x ys)
unfolding member
member-append x [] ys = refl
member-append x (y ∷ xs) ys = go (eqb x y) (member-append x xs ys)
  where
    go : (b : Bool) → member x (xs ++ ys) ≡ (member x xs || member x ys) → (b || member x (xs ++ ys)) ≡ ((b || member x xs) || member x ys)
    go true e = refl
    go false e = e

pub append_cases : (x : ℕ) (xs ys : List ℕ) → T (member x (xs ++ ys)) → T (member x xs) ⊎ T (member x ys)
append_cases x xs ys t = or_cases (member x xs) (member x ys) (rw member-append at t)

pub append_left : (x : ℕ) (xs ys : List ℕ) → T (member x xs) → T (member x (xs ++ ys))
append_left x xs ys t = rw member-append (or_left (member x xs) (member x ys) t)

pub append_right : (x : ℕ) (xs ys : List ℕ) → T (member x ys) → T (member x (xs ++ ys))
append_right x xs ys t = rw member-append (or_right (member x xs) (member x ys) t)

pub member-at : (xs : List ℕ) (j : ℕ) → j < length xs → T (member (get_or xs j 0) xs)
member-at [] j h = absurd (omega arith)
member-at (x ∷ xs) zero h = member-here x xs
member-at (x ∷ xs) (suc j) h = member-there (get_or xs j 0) x xs (member-at xs j (omega arith))

-- The names of a range, and no others.
pub range_inside : (a count x : ℕ) → T (member x (range a count)) → (a ≤ x) × (x < a + count)
unfolding range
range_inside a zero x t = absurd (member-none x t)
range_inside a (suc count) x t = ⊎_elim (λ e. omega arith) (λ q. let r = range_inside (suc a) count x q in omega arith) (member-cases x a (range (suc a) count) t)

pub inside-range : (a count x : ℕ) → a ≤ x → x < a + count → T (member x (range a count))
unfolding range
inside-range a zero x l h = absurd (omega arith)
inside-range a (suc count) x l h = dite (ℕ_discrete x a) (λ e. rw e (member-here a (range (suc a) count)))
    (λ ne. member-there x a (range (suc a) count) (inside-range (suc a) count x (omega arith) (omega arith)))

-- ---- tests of lists

pub every-each : (p : ℕ → Bool) (xs : List ℕ) → T (every p xs) → (x : ℕ) → T (member x xs) → T (p x)
unfolding every
every-each p [] t x m = absurd (member-none x m)
every-each p (y ∷ ys) t x m = ⊎_elim (λ e. rw e (and_left (p y) (every p ys) t)) (λ q. every-each p ys (and_right (p y) (every p ys) t) x q) (member-cases x y ys m)

pub share-found : (xs ys : List ℕ) (x : ℕ) → T (member x xs) → T (member x ys) → T (share xs ys)
unfolding share
share-found [] ys x m h = absurd (member-none x m)
share-found (y ∷ xs) ys x m h = ⊎_elim (λ e. or_left (member y ys) (share xs ys) (rw e at h)) (λ q. or_right (member y ys) (share xs ys) (share-found xs ys x q h)) (member-cases x y xs m)

-- Two lists that share no name.
pub share-none : (xs ys : List ℕ) → T (not (share xs ys)) → (x : ℕ) → T (member x xs) → T (member x ys) → ⊥
share-none xs ys t x m h = T_not (share xs ys) t (share-found xs ys x m h)

-- A list in which no name stands twice.
pub repeats-none : (xs : List ℕ) → T (not (repeats xs)) → (j k : ℕ) → j < length xs → k < length xs → get_or xs j 0 ≡ get_or xs k 0 → j ≡ k
unfolding repeats
repeats-none [] t j k hj hk e = absurd (omega arith)
repeats-none (x ∷ xs) t zero zero hj hk e = refl
repeats-none (x ∷ xs) t zero (suc k) hj hk e = absurd (T_not (member x xs) (nor_left (member x xs) (repeats xs) t) (rw e (member-at xs k (omega arith))))
repeats-none (x ∷ xs) t (suc j) zero hj hk e = absurd (T_not (member x xs) (nor_left (member x xs) (repeats xs) t) (rw (← e) (member-at xs j (omega arith))))
repeats-none (x ∷ xs) t (suc j) (suc k) hj hk e = ap suc (repeats-none xs (nor_right (member x xs) (repeats xs) t) j k (omega arith) (omega arith) e)
