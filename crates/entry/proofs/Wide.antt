-- The search for a cell that is not below 2^z, parameter by parameter: the cells of one parameter all have its size.
use Prim.Native.Nat.{ℕ, suc, ◌+◌, ◌-◌, ◌^◌, ◌≤◌, ◌<◌}
use mathlib.Core.Path.{◌≡◌, sym, ap, ◌∙◌}
use mathlib.Core.List.{List, ◌++◌}
use mathlib.Core.Bool.{Bool}
use native.Mathlib.Omega.{arith}
use native.Mathlib.Numerals.{add-one}
use native.Mathlib.Nat.{add-zero, sub-zero}
use lib.Dec.{ltb}
use Rattle.std.specs.Prelude.{Option, Some, None}
use Rattle.std.specs.Option.{option_map}
use Rattle.std.specs.List.{between}
use lib.ListN.{length, get_or, drop, replicate, length-replicate, get_or-replicate, get_or-append}
use lib.Seq.{drop-cons, drop_at, drop-drop, get_or-drop}
use Rattle.rules.specs.Image.{Parts}
use Rattle.rules.specs.Walk.{type_of}
use Rattle.rules.specs.Run.{per_cell, sum}
use Rattle.tree.specs.Search.{found, found_none, found-same}
use Rattle.entry.proofs.Searches.{found-skip, found-ends, found-part}
use Rattle.entry.proofs.Lengths.{Summed, summed_none, summed_more, summed_all}

-- What is said of each cell, from the cells of parameter j on.
abbrev pub sizes_of : Parts → ℕ → List ℕ → List ℕ
sizes_of s first lengths = per_cell (λ v. v.size) s first lengths

module _ (s : Parts) (first : ℕ) (lengths store : List ℕ) where
  abbrev pub narrow : ℕ → Bool
  narrow i = ltb (get_or store i 0) (2 ^ get_or (sizes_of s first lengths) i 0)

  -- No cell before `from`, the first cell of parameter j, is too wide.
  pub record Narrow (j from : ℕ) : Type 0 where
    pub summed : Summed lengths j from
    pub rest : drop from (sizes_of s first lengths) ≡ sizes_of s (first + j) (drop j lengths)
    pub looked : found narrow 0 (length store) ≡ found narrow from (length store - from)

  pub narrow-none : Narrow 0 0
  narrow-none = record { summed = summed_none lengths; rest = rw add-zero; looked = rw sub-zero }

  module _ (j from : ℕ) (f : Narrow j from) (whole : sum lengths ≡ length store) (h : j < length lengths) where
    these : drop from (sizes_of s first lengths) ≡ replicate (get_or lengths j 0) (type_of s (first + j)).size ++ sizes_of s (suc (first + j)) (drop (suc j) lengths)
    unfolding per_cell
    these = f.rest ∙ rw (drop-cons lengths j 0 h)

    pub within_store : from + get_or lengths j 0 ≤ length store
    within_store = omega (arith, (summed_more lengths j from f.summed h).sums)

    size_here : (i : ℕ) → from ≤ i → i < from + get_or lengths j 0 → get_or (sizes_of s first lengths) i 0 ≡ (type_of s (first + j)).size
    size_here i l m =
        let e : from + (i - from) ≡ i = omega arith in
        let k : i - from < get_or lengths j 0 = omega arith in
        let there = get_or-drop from (sizes_of s first lengths) (i - from) 0 in
        ap (λ x. get_or (sizes_of s first lengths) x 0) (sym e) ∙ sym there
        ∙ ap (λ x. get_or x (i - from) 0) these
        ∙ get_or-append (replicate (get_or lengths j 0) (type_of s (first + j)).size) _ 0 (i - from) (rw length-replicate k)
        ∙ get_or-replicate (get_or lengths j 0) (i - from) (type_of s (first + j)).size 0 k

    -- The parameter's own cells are searched by its size alone.
    abbrev pub cells : List ℕ
    cells = between from (from + get_or lengths j 0) store

    module _ (z : ℕ) (ez : z ≡ (type_of s (first + j)).size) (r : Option ℕ) (e : r ≡ found (λ k. ltb (get_or cells k 0) (2 ^ z)) 0 (length cells)) where
      here : option_map (λ i. from + i) r ≡ found narrow from (get_or lengths j 0)
      here =
          let back : from + get_or lengths j 0 - from ≡ get_or lengths j 0 = omega arith in
          found-part (λ x. ltb x (2 ^ z)) store from (from + get_or lengths j 0) (omega arith) within_store r e
          ∙ ap (λ n. found (λ k. ltb (get_or store k 0) (2 ^ z)) from n) back
          ∙ found-same (λ k. ltb (get_or store k 0) (2 ^ z)) narrow from (get_or lengths j 0)
          (λ k l m. ap (λ x. ltb (get_or store k 0) (2 ^ x)) (ez ∙ sym (size_here k l m)))

      split : length store - from ≡ get_or lengths j 0 + (length store - (from + get_or lengths j 0))
      split = omega (arith, within_store)

      pub narrow-stop : (i : ℕ) → r ≡ Some i → Some (from + i) ≡ found narrow 0 (length store)
      narrow-stop i is =
          rw (f.looked, split) (found-ends narrow from (get_or lengths j 0) _ (from + i) (ap (λ x. option_map (λ k. from + k) x) (sym is) ∙ here))

      pub narrow-more : r ≡ None → Narrow (j + 1) (from + get_or lengths j 0)
      narrow-more is =
          let on : first + (j + 1) ≡ suc (first + j) = omega arith in
          record {
            summed = summed_more lengths j from f.summed h;
            rest = rw (on, add-one) (sym (drop-drop (get_or lengths j 0) from (sizes_of s first lengths)) ∙ ap (λ x. drop (get_or lengths j 0) x) these ∙ drop_at (replicate (get_or lengths j 0) (type_of s (first + j)).size) (sizes_of s (suc (first + j)) (drop (suc j) lengths)) (get_or lengths j 0) (length-replicate (get_or lengths j 0) (type_of s (first + j)).size));
            looked = f.looked ∙ rw split (found-skip narrow from (get_or lengths j 0) _ (ap (λ x. option_map (λ k. from + k) x) (sym is) ∙ here));
          }

  pub narrow-end : (j from : ℕ) → Narrow j from → sum lengths ≡ length store → length lengths ≤ j → None ≡ found narrow 0 (length store)
  narrow-end j from f whole h =
      let all = summed_all lengths j from f.summed h in
      rw f.looked (found_none narrow from (length store - from) (length store) (omega arith) (λ k l m. absurd (omega arith)))
