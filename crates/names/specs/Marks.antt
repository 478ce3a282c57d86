-- Names as marks: one for each of 1,024 variables, which holds where the name belongs to a list.
use Rattle.std.specs.Prelude.{ℕ, zero, suc, ◌+◌, ◌-◌, ◌≤◌, ◌<◌, ◌≡◌, List, [], ◌∷◌, ◌++◌, Bool, true, false, ◌||◌, eqb, get_or, set, replicate}
use Rattle.std.proofs.Math.Path.{refl, sym}
use Rattle.std.proofs.Math.Bool.{or-true, or-false, or_assoc, or_comm}
use Rattle.std.proofs.Common.{ap, ◌∙◌, arith, ⊎_elim, get_or-set_other}
use Rattle.std.proofs.lemmas.Bool.{cases_Bool, eq-eqb, ne_eqb, eqb-true, eqb-false}
use Rattle.std.proofs.lemmas.Bool.Decides.{nat_tests}
use Rattle.std.proofs.Math.ListN.{length, length-set}
use Rattle.std.proofs.lemmas.List.{get_or-replicate}
use Rattle.std.proofs.Math.Seq.{get_or-set_same}
use Rattle.rules.specs.Tree.{member, range}
use Rattle.rules.specs.Walk.{share, repeats}
use Rattle.names.specs.declared.marks.Names.{Names}

-- How many names there can be.
abbrev pub most : ℕ
most = 1024

unfoldable pub marked : Names → ℕ → Bool
marked marks x = get_or marks.marks x false

-- The marks stand for the names of the list.
pub record Marks (marks : Names) (names : List ℕ) : Type 0 where
  pub long : length marks.marks ≡ most
  pub at : (x : ℕ) → x < most → marked marks x ≡ member x names

-- ---- membership

-- The first two of three tests, and the middle two of four, stand in either order.
or_front : (a b c : Bool) → (a || (b || c)) ≡ (b || (a || c))
or_front a b c = sym (or_assoc a b c) ∙ ap (λ t. t || c) (or_comm a b) ∙ or_assoc b a c

or_swap : (a b c d : Bool) → ((a || b) || (c || d)) ≡ ((a || c) || (b || d))
or_swap a b c d = or_assoc a b (c || d) ∙ ap (λ t. a || t) (or_front b c d) ∙ sym (or_assoc a c (b || d))

eqb_comm : (x y : ℕ) → eqb x y ≡ eqb y x
eqb_comm x y = grind (arith, nat_tests)

pub member-append : (x : ℕ) (a b : List ℕ) → member x (a ++ b) ≡ (member x a || member x b)
unfolding member
member-append x [] b = refl
member-append x (y ∷ a) b = rw (member-append x a b) (sym (or_assoc (eqb x y) (member x a) (member x b)))

-- What is declared in a and then in b, over d.
pub member-regroup : (x : ℕ) (a b d : List ℕ) → member x (b ++ (a ++ d)) ≡ member x ((a ++ b) ++ d)
member-regroup x a b d =
    rw (member-append x b (a ++ d), member-append x a d, member-append x (a ++ b) d, member-append x a b)
    (sym (or_assoc (member x b) (member x a) (member x d)) ∙ ap (λ t. t || member x d) (or_comm (member x b) (member x a)))

-- A name is looked for in a list from its front, one by one or part by part.
module _ (x : ℕ) where
  pub member-here : {y : ℕ} (ys : List ℕ) → y ≡ x → eqb y x ≡ member x (y ∷ ys)
  unfolding member
  member-here {y} ys e = rw (eq-eqb x y (sym e), eq-eqb y x e)

  pub member-later : {y : ℕ} (ys : List ℕ) {r : Bool} → (y ≡ x → ⊥) → r ≡ member x ys → r ≡ member x (y ∷ ys)
  unfolding member
  member-later ys e m = rw (ne_eqb x _ (λ z. e (sym z))) m

  pub member-left : (a b : List ℕ) {r : Bool} → r ≡ member x a → r ≡ true → r ≡ member x (a ++ b)
  member-left a b m e = e ∙ rw (member-append x a b, ← m, e)

  pub member_right : (a b : List ℕ) {r t : Bool} → t ≡ member x a → t ≡ false → r ≡ member x b → r ≡ member x (a ++ b)
  member_right a b m e k = rw (member-append x a b, ← m, e) k

-- ---- lists with a name in common

pub share-none : (a : List ℕ) → share a [] ≡ false
unfolding share member
share-none [] = refl
share-none (x ∷ a) = share-none a

pub share-append : (a b d : List ℕ) → share (a ++ b) d ≡ (share a d || share b d)
unfolding share
share-append [] b d = refl
share-append (x ∷ a) b d = rw (share-append a b d) (sym (or_assoc (member x d) (share a d) (share b d)))

share-cons : (a : List ℕ) (x : ℕ) (b : List ℕ) → share a (x ∷ b) ≡ (member x a || share a b)
unfolding share member
share-cons [] x b = refl
share-cons (y ∷ a) x b = rw (eqb_comm y x, share-cons a x b) (or_swap (eqb x y) (member y b) (member x a) (share a b))

pub share-comm : (a b : List ℕ) → share a b ≡ share b a
unfolding share
share-comm a [] = share-none a
share-comm a (x ∷ b) = share-cons a x b ∙ ap (λ t. member x a || t) (share-comm a b)

-- ---- marks

pub no_marks : Marks (record { marks = replicate most false }) []
unfolding marked member
no_marks = record { long = refl; at = λ x l. rw (get_or-replicate {A = Bool} most x false false l) }

-- The marks with one more.
abbrev pub with_mark : Names → ℕ → Names
with_mark marks x = record { marks = set marks.marks x true }

module _ (marks : Names) (names : List ℕ) (m : Marks marks names) where
  marked-set : (x y : ℕ) → x < most → y < most → marked (with_mark marks x) y ≡ (eqb y x || member y names)
  unfolding marked
  marked-set x y lx ly =
      let inside : x < length marks.marks = rw m.long lx in
      ⊎_elim
      (λ (e : eqb y x ≡ true). rw (e, eqb-true y x e, get_or-set_same {A = Bool} marks.marks x true false inside))
      (λ (e : eqb y x ≡ false). rw (e, get_or-set_other {A = Bool} marks.marks x y true false (eqb-false y x e)) (m.at y ly))
      (cases_Bool (eqb y x))

  pub mark_one : (x : ℕ) → x < most → Marks (with_mark marks x) (x ∷ names)
  unfolding member
  mark_one x l = record { long = length-set marks.marks x true ∙ m.long; at = λ y k. marked-set x y l k }

  -- Other names with the same members.
  pub same-marks : (others : List ℕ) → ((x : ℕ) → member x names ≡ member x others) → Marks marks others
  same-marks others e = record { long = m.long; at = λ x l. m.at x l ∙ e x }

-- The marks afterwards stand for these names too.
pub record Adds (before after : Names) (names : List ℕ) : Type 0 where
  pub over : (Γ : List ℕ) → Marks before Γ → Marks after (names ++ Γ)

-- An answer tells whether a name is among those that the marks stand for.
abbrev pub Tells : Names → ℕ → Bool → Type 0
Tells marks x r = (Γ : List ℕ) → Marks marks Γ → x < most → r ≡ member x Γ

pub adds_none : (marks : Names) → Adds marks marks []
adds_none marks = record { over = λ Γ m. m }

pub adds_one : (marks : Names) (x : ℕ) → x < most → Adds marks (with_mark marks x) (x ∷ [])
adds_one marks x l = record { over = λ Γ m. mark_one marks Γ m x l }

module _ {before between after : Names} where
  pub adds_both : {a b : List ℕ} → Adds before between a → Adds between after b → Adds before after (a ++ b)
  adds_both {a} {b} f g =
      record { over = λ Γ m. same-marks after (b ++ (a ++ Γ)) (g.over (a ++ Γ) (f.over Γ m)) ((a ++ b) ++ Γ) (λ x. member-regroup x a b Γ) }

  pub adds_first : {x : ℕ} {b : List ℕ} → Adds before between (x ∷ []) → Adds between after b → Adds before after (x ∷ b)
  adds_first {x} {b} f g = adds_both f g

-- A range and the name behind it.
range-more : (x count : ℕ) (y : ℕ) → member y (range x (suc count)) ≡ (eqb y (x + count) || member y (range x count))
unfolding member range
range-more x zero y = let e : x + 0 ≡ x = omega arith in rw e
range-more x (suc count) y =
    let e : suc x + count ≡ x + suc count = omega arith in
    rw (range-more (suc x) count y, e) (or_front (eqb y x) (eqb y (x + suc count)) (member y (range (suc x) count)))

-- What is marked from x up to y, with y too; none at first, all at last.
pub adds_behind : {before between after : Names} (x y : ℕ) → x ≤ y
    → Adds before between (range x (y - x)) → Adds between after (y ∷ []) → Adds before after (range x (y + 1 - x))
unfolding member
adds_behind {before} {between} {after} x y l f g = record {
  over = λ Γ m.
      same-marks after (y ∷ (range x (y - x) ++ Γ)) (g.over (range x (y - x) ++ Γ) (f.over Γ m)) (range x (y + 1 - x) ++ Γ)
      (λ z.
      let e : y + 1 - x ≡ suc (y - x) = omega arith in
      let k : x + (y - x) ≡ y = omega arith in
      rw (member-append z (range x (y - x)) Γ, member-append z (range x (y + 1 - x)) Γ, e, range-more x (y - x) z, k)
      (sym (or_assoc (eqb z y) (member z (range x (y - x))) (member z Γ))));
}

pub range_none : (marks : Names) (x : ℕ) → Adds marks marks (range x (x - x))
unfolding range
range_none marks x = let e : x - x ≡ 0 = omega arith in rw e (adds_none marks)

-- Whether one of the names is among those that the marks stand for.
pub record Touches (marks : Names) (names : List ℕ) (r : Bool) : Type 0 where
  pub over : (Γ : List ℕ) → Marks marks Γ → r ≡ share names Γ

module _ {marks : Names} where
  pub touches_none : Touches marks [] false
  unfolding share
  touches_none = record { over = λ Γ m. refl }

  pub touches_first : {x : ℕ} {xs : List ℕ} {r : Bool} → x < most → Tells marks x r → r ≡ true → Touches marks (x ∷ xs) true
  unfolding share
  touches_first l t e = record { over = λ Γ m. rw (← t Γ m l, e) }

  pub touches_later : {x : ℕ} {xs : List ℕ} {r t : Bool} → x < most → Tells marks x t → t ≡ false → Touches marks xs r → Touches marks (x ∷ xs) r
  unfolding share
  touches_later l t e f = record { over = λ Γ m. rw (← t Γ m l, e) (f.over Γ m) }

  pub touches_left : {a : List ℕ} (b : List ℕ) {r : Bool} → Touches marks a r → r ≡ true → Touches marks (a ++ b) r
  touches_left {a} b {r} f e = record { over = λ Γ m. e ∙ rw (share-append a b Γ, ← f.over Γ m, e) }

  pub touches_right : {a b : List ℕ} {r t : Bool} → Touches marks a t → t ≡ false → Touches marks b r → Touches marks (a ++ b) r
  touches_right {a} {b} f e g = record { over = λ Γ m. rw (share-append a b Γ, ← f.over Γ m, e) (g.over Γ m) }

-- Whether one of the names comes twice, or is marked already.
pub record Repeats (marks : Names) (names : List ℕ) (r : Bool) : Type 0 where
  pub over : (Γ : List ℕ) → Marks marks Γ → r ≡ (repeats names || share names Γ)

module _ {marks : Names} where
  pub repeats-none : Repeats marks [] false
  unfolding share repeats
  repeats-none = record { over = λ Γ m. refl }

  pub repeats-here : {x : ℕ} {xs : List ℕ} {r : Bool} → x < most → Tells marks x r → r ≡ true → Repeats marks (x ∷ xs) true
  unfolding share
  repeats-here {x} {xs} l t e = record { over = λ Γ m. rw (← t Γ m l, e) (sym (or-true (repeats (x ∷ xs)))) }

  pub repeats-later : {after : Names} {x : ℕ} {xs : List ℕ} {r t : Bool} → x < most → Tells marks x t → t ≡ false
      → Adds marks after (x ∷ []) → Repeats after xs r → Repeats marks (x ∷ xs) r
  unfolding share repeats
  repeats-later {after} {x} {xs} l t e f g = record {
    over = λ Γ m. g.over (x ∷ Γ) (f.over Γ m) ∙ rw (share-cons xs x Γ, ← t Γ m l, e) (or_front (repeats xs) (member x xs) (share xs Γ) ∙ sym (or_assoc (member x xs) (repeats xs) (share xs Γ)));
  }

  -- Of no marks.
  pub repeats-alone : {names : List ℕ} {r : Bool} → Marks marks [] → Repeats marks names r → r ≡ repeats names
  repeats-alone {names} m f = f.over [] m ∙ rw (share-none names) (or-false (repeats names))

pub adds_alone : {before after : Names} {names : List ℕ} → Marks before [] → Adds before after names → Marks after names
unfolding member
adds_alone {before} {after} {names} m f =
    same-marks after (names ++ []) (f.over [] m) names (λ x. member-append x names [] ∙ or-false (member x names))

module _ {marks : Names} where
  pub touches_one : {x : ℕ} {r : Bool} → x < most → Tells marks x r → Touches marks (x ∷ []) r
  unfolding share
  touches_one {x} l t = record { over = λ Γ m. t Γ m l ∙ sym (or-false (member x Γ)) }

  -- The answer of the first test, if it is true.
  pub touches_here : {x : ℕ} {xs : List ℕ} {r : Bool} → x < most → Tells marks x r → r ≡ true → Touches marks (x ∷ xs) r
  touches_here l t e = rw e (touches_first l t e)

-- 11 of a call: two roots that are one, or a root that is in an index.
module _ {names : List ℕ} (others : List ℕ) where
  pub clash_twice : {marks : Names} {r : Bool} → Marks marks [] → Repeats marks names r → r ≡ true → true ≡ (repeats names || share names others)
  clash_twice m f e = rw (← repeats-alone m f, e)

  pub clash_index : {marks before after : Names} {r t : Bool} → Marks marks [] → Repeats marks names t → t ≡ false
      → Marks before [] → Adds before after others → Touches after names r → r ≡ (repeats names || share names others)
  clash_index m f e k g u = rw (← repeats-alone m f, e) (u.over others (adds_alone k g))
