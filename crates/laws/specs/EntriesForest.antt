-- The nodes of an accepted image form a forest: each is referred to at most once, and only by a node before it.
-- So a weight that is at most 1 above the weights of what a node refers to is nowhere more than the number of nodes.
use Prim.Native.Nat.{ℕ, zero, suc, ◌+◌, ◌≤◌, ◌<◌}
use mathlib.Core.List.{List, [], ◌∷◌, ◌++◌}
use Rattle.std.specs.Prelude.{◌≡◌, Bool, not, eqb, leb}
use Rattle.std.proofs.Math.Path.{refl, ap}
use Rattle.std.proofs.Math.Bool.{true, false, cond}
use native.Mathlib.Omega.{arith}
use Rattle.std.proofs.Common.{add-zero, eqb→eq}
use Rattle.std.proofs.Math.Dec.{T, leb→le, nleb→lt, T_not}
use Rattle.rules.specs.Image.{node_of}
use Rattle.rules.specs.Tree.{references_of, node_references, occurrences}
use Rattle.laws.specs.Verdicts.{equal_test}

-- ---- sums of a weight: over the numbers of a list, and over the count numbers from n on

unfoldable pub total : (ℕ → ℕ) → List ℕ → ℕ
total w [] = 0
total w (x ∷ xs) = w x + total w xs

unfoldable pub sum_over : (ℕ → ℕ) → ℕ → ℕ → ℕ
sum_over w n zero = 0
sum_over w n (suc count) = w n + sum_over w (suc n) count

-- The weight of the numbers from n on; those before it weigh nothing.
unfoldable pub starting_at : ℕ → (ℕ → ℕ) → ℕ → ℕ
starting_at n w x = cond (leb n x) (w x) 0

total-append : (w : ℕ → ℕ) (xs ys : List ℕ) → total w (xs ++ ys) ≡ total w xs + total w ys
unfolding total
total-append w [] ys = omega arith
total-append w (x ∷ xs) ys = let e = total-append w xs ys in omega arith

pub occurrences-append : (n : ℕ) (xs ys : List ℕ) → occurrences n (xs ++ ys) ≡ occurrences n xs + occurrences n ys
unfolding occurrences
occurrences-append n [] ys = omega arith
occurrences-append n (x ∷ xs) ys = go (eqb n x) (occurrences-append n xs ys)
  where
    go : (b : Bool) → occurrences n (xs ++ ys) ≡ occurrences n xs + occurrences n ys
        → cond b (suc (occurrences n (xs ++ ys))) (occurrences n (xs ++ ys)) ≡ cond b (suc (occurrences n xs)) (occurrences n xs) + occurrences n ys
    go true e = omega arith
    go false e = e

module _ (w : ℕ → ℕ) where
  starting-later : (n m x : ℕ) → n ≤ m → starting_at m w x ≤ starting_at n w x
  unfolding starting_at
  starting-later n m x l = go (leb m x) (leb n x) (λ t. leb→le m x t) (λ t. nleb→lt n x t)
    where
      go : (b c : Bool) → (T b → m ≤ x) → (T (not c) → x < n) → cond b (w x) 0 ≤ cond c (w x) 0
      go true true f g = omega arith
      go true false f g = absurd (let p = f tt in let q = g tt in omega arith)
      go false c f g = omega arith

  total-later : (n m : ℕ) (xs : List ℕ) → n ≤ m → total (starting_at m w) xs ≤ total (starting_at n w) xs
  unfolding total
  total-later n m [] l = omega arith
  total-later n m (x ∷ xs) l = let a = starting-later n m x l in let b = total-later n m xs l in omega arith

  starting-here : (n x : ℕ) → starting_at n w x ≤ cond (eqb n x) (w n) 0 + starting_at (suc n) w x
  unfolding starting_at
  starting-here n x = go (eqb n x) (leb n x) (leb (suc n) x) (λ t. ap w (eqb→eq n x t)) (λ t. T_not (eqb n x) t) (λ t. leb→le n x t) (λ t. nleb→lt (suc n) x t)
    where
      go : (same from after : Bool) → (T same → w n ≡ w x) → (T (not same) → T (eqb n x) → ⊥) → (T from → n ≤ x) → (T (not after) → x < suc n)
          → cond from (w x) 0 ≤ cond same (w n) 0 + cond after (w x) 0
      go same false after p q f g = omega arith
      go same true true p q f g = omega arith
      go true true false p q f g = let e = p tt in omega arith
      go false true false p q f g = absurd (let a = f tt in let b = g tt in q tt (equal_test n x (omega arith)))

  total-absent : (n : ℕ) (xs : List ℕ) → occurrences n xs ≤ 0 → total (starting_at n w) xs ≤ total (starting_at (suc n) w) xs
  unfolding total occurrences
  total-absent n [] h = omega arith
  total-absent n (x ∷ xs) h = go (eqb n x) h (starting-here n x) (total-absent n xs)
    where
      go : (b : Bool) → cond b (suc (occurrences n xs)) (occurrences n xs) ≤ 0 → starting_at n w x ≤ cond b (w n) 0 + starting_at (suc n) w x
          → (occurrences n xs ≤ 0 → total (starting_at n w) xs ≤ total (starting_at (suc n) w) xs)
          → starting_at n w x + total (starting_at n w) xs ≤ starting_at (suc n) w x + total (starting_at (suc n) w) xs
      go true h l rest = absurd (omega arith)
      go false h l rest = let r = rest h in omega arith

  -- A number that stands at most once in a list is weighed at most once.
  total-once : (n : ℕ) (xs : List ℕ) → occurrences n xs ≤ 1 → total (starting_at n w) xs ≤ w n + total (starting_at (suc n) w) xs
  unfolding total occurrences
  total-once n [] h = omega arith
  total-once n (x ∷ xs) h = go (eqb n x) h (starting-here n x) (total-once n xs)
    where
      go : (b : Bool) → cond b (suc (occurrences n xs)) (occurrences n xs) ≤ 1 → starting_at n w x ≤ cond b (w n) 0 + starting_at (suc n) w x
          → (occurrences n xs ≤ 1 → total (starting_at n w) xs ≤ w n + total (starting_at (suc n) w) xs)
          → starting_at n w x + total (starting_at n w) xs ≤ w n + (starting_at (suc n) w x + total (starting_at (suc n) w) xs)
      go true h l rest = let r = total-absent n xs (omega arith) in omega arith
      go false h l rest = let r = rest h in omega arith

  module _ (nodes : ℕ) (light : (m : ℕ) → nodes ≤ m → w m ≡ 0) where
    total-none : (n : ℕ) (xs : List ℕ) → nodes ≤ n → total (starting_at n w) xs ≡ 0
    unfolding total starting_at
    total-none n [] l = refl
    total-none n (x ∷ xs) l = let r = total-none n xs l in let z = go (leb n x) (λ t. light x (let m = leb→le n x t in omega arith)) in omega arith
      where
        go : (b : Bool) → (T b → w x ≡ 0) → cond b (w x) 0 ≡ 0
        go true f = f tt
        go false f = refl

    -- A list in which no number stands twice weighs no more than all its numbers.
    total-forest : (n count : ℕ) (xs : List ℕ) → n + count ≡ nodes → ((m : ℕ) → m < nodes → occurrences m xs ≤ 1) → total (starting_at n w) xs ≤ sum_over w n count
    unfolding sum_over
    total-forest n zero xs e once = let z = total-none n xs (omega arith) in omega arith
    total-forest n (suc count) xs e once =
        let a = total-once n xs (once n (omega arith)) in
        let b = total-forest (suc n) count xs (omega arith) once in
        omega arith

-- ---- the forest

-- What is referred to from node n + p on is referred to from node n on.
occurrences-later : (s : List ℕ) (m n p count : ℕ) → occurrences m (node_references s (n + p) count) ≤ occurrences m (node_references s n (count + p))
unfolding node_references
occurrences-later s m n zero count = simp add-zero (omega arith)
occurrences-later s m n (suc p) count =
    let e : n + suc p ≡ suc n + p = omega arith in
    let f : count + suc p ≡ suc (count + p) = omega arith in
    let a = occurrences-later s m (suc n) p count in
    rw (e, f, occurrences-append m (references_of (node_of s n)) (node_references s (suc n) (count + p))) (omega arith)

module _ (s : List ℕ) (nodes : ℕ) (once : (m : ℕ) → m < nodes → occurrences m (node_references s 0 nodes) ≤ 1)
    (w : ℕ → ℕ) (light : (m : ℕ) → nodes ≤ m → w m ≡ 0)
    (grows : (n : ℕ) → n < nodes → w n ≤ 1 + total (starting_at (suc n) w) (references_of (node_of s n))) where
  sum-bounded : (k n count : ℕ) → k ≤ n → n + count ≡ nodes → sum_over w n count ≤ count + total (starting_at (suc k) w) (node_references s n count)
  unfolding sum_over node_references total
  sum-bounded k n zero l e = omega arith
  sum-bounded k n (suc count) l e =
      let a = grows n (omega arith) in
      let b = total-later w (suc k) (suc n) (references_of (node_of s n)) (omega arith) in
      let c = sum-bounded k (suc n) count (omega arith) (omega arith) in
      let d = total-append (starting_at (suc k) w) (references_of (node_of s n)) (node_references s (suc n) count) in
      omega arith

  pub weight_bounded : (n count : ℕ) → n + suc count ≡ nodes → w n ≤ suc count
  unfolding sum_over
  weight_bounded n count e =
      let a = sum-bounded n n (suc count) (omega arith) e in
      let b = total-forest w nodes light (suc n) count (node_references s n (suc count)) (omega arith)
      (λ m l. let f : 0 + n ≡ n = omega arith in
      let g : suc count + n ≡ nodes = omega arith in
      let o = once m l in
      let q = rw (f, g) at (occurrences-later s m 0 n (suc count)) in
      omega arith) in
      omega arith
