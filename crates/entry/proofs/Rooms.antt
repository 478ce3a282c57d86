-- A walk through the variables: the owner of the next one is not before the owner of the last, so each search for it goes on where the last one ended.
use Prim.Native.Nat.{ℕ, ◌+◌, ◌-◌, ◌≤◌}
use mathlib.Core.Path.{◌≡◌, sym, ◌∙◌}
use native.Mathlib.Omega.{arith}
use native.Mathlib.Numerals.{add-one}
use native.Mathlib.Nat.{sub-zero, zero-add}
use borrow.Author.Tests.{le-leb, leb-true}
use Rattle.rules.specs.Image.{Header, Parts, Procedure, procedure_of, Variable}
use Rattle.rules.specs.Form as form
use Rattle.rules.specs.Form.{owner, is_parameter}
use Rattle.rules.specs.Walk.{type_of}
use Rattle.rules.specs.Run.{room_of, room_before}
use Rattle.entry.specs.Cells.{ends_at, cells_by, Walked}
use Rattle.entry.proofs.Searches.{search-further}

module _ (h : Header) (s : Parts) where
  pub walked_none : Walked h s 0 0
  unfolding owner
  walked_none = record { upto = omega arith; found = rw sub-zero }

  module _ (o x : ℕ) (w : Walked h s o x) (o' : ℕ) (r : o' ≡ form.search (ends_at s.procedures x) o (h.procedures - o)) where
    pub walked_more : o' ≤ h.procedures → Walked h s o' (x + 1)
    unfolding owner
    walked_more l =
        let e : form.search (ends_at s.procedures x) 0 h.procedures ≡ o' = w.found ∙ sym r in
        let z : 0 + h.procedures ≡ h.procedures = zero-add _ in
        record {
          upto = l;
          found = search-further (ends_at s.procedures x) (ends_at s.procedures (x + 1)) (λ p t. le-leb ((procedure_of s.procedures p).first + (procedure_of s.procedures p).count) (x + 1) (omega (arith, leb-true ((procedure_of s.procedures p).first + (procedure_of s.procedures p).count) x t))) 0 h.procedures
              ∙ rw (e, z);
        }

    -- The cells of a variable, told by the record of the owner that was found.
    pub walked_room : (q : Procedure) → q ≡ procedure_of s.procedures o' → (v : Variable) → v ≡ type_of s x → room_of h s x ≡ cells_by q v x
    unfolding room_of is_parameter cells_by
    walked_room q eq v ev =
        let e : owner h s.procedures x ≡ o' = w.found ∙ sym r in
        rw (e, eq, ev)

  pub room_next : (x : ℕ) → room_before h s (x + 1) ≡ room_before h s x + room_of h s x
  unfolding room_before
  room_next x = rw add-one
