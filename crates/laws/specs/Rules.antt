-- The static rules that reversibility needs, as a predicate on trees, and the names whose cells a statement may leave changed.
use Rattle.std.specs.Prelude.{ℕ, ◌+◌, ◌<◌, List, [], ◌∷◌, ◌++◌, ◌≡◌, Bool, false, not, ◌&&◌, ◌||◌, length, get_or, T, eqb}
use Rattle.std.proofs.Common.{⊎_elim}
use Rattle.rules.specs.Image.{Parts, procedure_of, is_array}
use Rattle.rules.specs.Tree.{member, LValue, whole, Stmt, empty, update, swap, conditional_swap, branch, loop, call, block, nothing, list, variables, root, index, roots, indices, changed, declared}
use Rattle.rules.specs.Walk.{type_of}
use Rattle.laws.specs.Verdicts.{and_left, or_cases, append_left, append_right}
use Rattle.laws.specs.Readings.{Readable, Indexed, Target}

-- x is changed, and is not one of the names that live in the statement alone.
unfoldable pub outward : ℕ → Stmt → Bool
outward x (empty n) = false
outward x (update n o l e) = member x (root l ∷ [])
outward x (swap n l m) = member x (root l ∷ root m ∷ [])
outward x (conditional_swap n e l m) = member x (root l ∷ root m ∷ [])
outward x (branch n e t u) = outward x t || outward x u
outward x (loop n y a b t) = outward x t && not (eqb x y)
outward x (call n d q ls) = member x (roots ls)
outward x (block n ys t) = outward x t && not (member x ys)
outward x nothing = false
outward x (list t u) = outward x t || outward x u

pub outward-changed : (t : Stmt) (x : ℕ) → T (outward x t) → T (member x (changed t))
unfolding outward changed
outward-changed (empty n) x h = absurd h
outward-changed (update n o l e) x h = h
outward-changed (swap n l m) x h = h
outward-changed (conditional_swap n e l m) x h = h
outward-changed (branch n e t u) x h = ⊎_elim (λ a. append_left x (changed t) (changed u) (outward-changed t x a)) (λ a. append_right x (changed t) (changed u) (outward-changed u x a))
    (or_cases (outward x t) (outward x u) h)
outward-changed (loop n y a b t) x h = outward-changed t x (and_left (outward x t) (not (eqb x y)) h)
outward-changed (call n d q ls) x h = h
outward-changed (block n ys t) x h = outward-changed t x (and_left (outward x t) (not (member x ys)) h)
outward-changed nothing x h = absurd h
outward-changed (list t u) x h = ⊎_elim (λ a. append_left x (changed t) (changed u) (outward-changed t x a)) (λ a. append_right x (changed t) (changed u) (outward-changed u x a))
    (or_cases (outward x t) (outward x u) h)

-- Two lists without a common name.
abbrev pub Apart : List ℕ → List ℕ → Type 0
Apart xs ys = (x : ℕ) → T (member x xs) → T (member x ys) → ⊥

-- `single` are the names of one cell.
module _ (s : Parts) (single : ℕ → Type 0) where
  pub record CallLawful (q : ℕ) (ls : List LValue) : Type 0 where
    pub count : length ls ≡ (procedure_of s.procedures q).parameters
    pub indexed : (j : ℕ) → j < length ls → Indexed single (get_or ls j (whole 0 0))
    pub target : (j : ℕ) → j < length ls → T (not (is_array (type_of s ((procedure_of s.procedures q).first + j)))) → Target single (get_or ls j (whole 0 0))
    pub size : (j : ℕ) → j < length ls → (type_of s (root (get_or ls j (whole 0 0)))).size ≡ (type_of s ((procedure_of s.procedures q).first + j)).size
    pub once : (j k : ℕ) → j < length ls → k < length ls → root (get_or ls j (whole 0 0)) ≡ root (get_or ls k (whole 0 0)) → j ≡ k
    pub apart : Apart (indices ls) (roots ls)

  unfoldable pub Lawful : Stmt → Type 0
  Lawful (empty n) = Unit {0}
  Lawful (update n o l e) = Target single l × Readable single e × Apart (index l) (root l ∷ []) × Apart (variables e) (root l ∷ [])
  Lawful (swap n l m) =
      Target single l × Target single m × Apart (index l) (root l ∷ root m ∷ []) × Apart (index m) (root l ∷ root m ∷ [])
      × ((type_of s (root l)).size ≡ (type_of s (root m)).size)
  Lawful (conditional_swap n e l m) =
      Readable single e × Apart (variables e) (root l ∷ root m ∷ [])
      × Target single l × Target single m × Apart (index l) (root l ∷ root m ∷ []) × Apart (index m) (root l ∷ root m ∷ [])
      × ((type_of s (root l)).size ≡ (type_of s (root m)).size)
  Lawful (branch n e t u) = Readable single e × Apart (variables e) (changed t ++ changed u) × Lawful t × Lawful u
  Lawful (loop n x a b t) =
      single x × ((type_of s x).size ≡ 64) × Readable single a × Readable single b × Apart (variables a) (changed t) × Apart (variables b) (changed t)
      × Apart (x ∷ []) (declared t) × Lawful t
  Lawful (call n d q ls) = CallLawful q ls
  Lawful (block n xs t) = Apart xs (declared t) × Lawful t
  Lawful nothing = Unit {0}
  Lawful (list t u) = Lawful t × Lawful u
