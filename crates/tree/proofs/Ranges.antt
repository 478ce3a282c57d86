-- What the library's search over a range finds, by what its test says of one place.
use Prim.Native.Nat.{ℕ, ◌+◌}
use Rattle.std.specs.Prelude.{◌≡◌, Bool, true, false, List, Option, MatchOption, ⊤}
use Rattle.std.specs.declared.ops.Range.{Range}
use Rattle.std.proofs.iter.Yields.{nat_range_steps}
use Rattle.std.proofs.lemmas.Iterator.{first_from_Range}
use Rattle.std.specs.Fn.{CalledAt}
use Rattle.std.specs.Iterator.{YieldsThen}
use Rattle.std.specs.List.{FoldsTo}
use denote.Param.Members.{Mut}
use denote.Ref.{Bor}
use Rattle.tree.specs.Search.{found, found-by}

pub found-range : {F : Type 0} {g : Mut F (Bor ℕ × Unit {0}) Bool} (passes : ℕ → Bool) (count : ℕ) (s u : Range ℕ) (f : F) (r : Option ℕ) → s.start + count ≡ s.end
    → (xs : List ℕ) × (j : F) × YieldsThen nat_range_steps s xs r u × FoldsTo (λ p x q. CalledAt g p x false q) f xs j × MatchOption r ⊤ (λ x. (h : F) × CalledAt g j x true h)
    → ((x : ℕ) (q : F) → CalledAt g f x true q → passes x ≡ false) → ((x : ℕ) (q : F) → CalledAt g f x false q → (q ≡ f) × (passes x ≡ true))
    → r ≡ found passes s.start count
found-range passes count s u f r last ran stops passed = found-by passes s.start count s.end last r (first_from_Range s u f r (λ x. passes x ≡ false) (λ x. passes x ≡ true) ran stops passed)
