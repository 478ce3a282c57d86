-- The tests of the rules, taken apart as the code takes them.
use Prim.Native.Nat.{ℕ, suc, ◌+◌}
use Rattle.std.specs.Prelude.{◌≡◌, List, Bool, Option, Some, None, true, not, cond, ◌&&◌, ◌||◌, eqb, leb, ltb, length}
use Rattle.std.proofs.Common.{sym, ◌∙◌}
use Rattle.std.proofs.Math.Path.{ap}
use native.Mathlib.Omega.{arith}
use borrow.Author.Tests.{eqb-true}
use Rattle.std.proofs.lemmas.Bool.{and_parts}
use Rattle.rules.specs.Image.{Header, header_of, Procedure, procedure_of, variable_of, node_of}
use Rattle.rules.specs.Form.{Verdict, given, counts_fit, parts_follow, layout_refusal, procedure_fits, shared_before, is_parameter, variable_fits, record_fits}

-- The kind of the node that v refers to, where it is a larger node.
abbrev pub referred : Header → List ℕ → ℕ → ℕ → Option ℕ
referred h s n v = cond (ltb n v && ltb v h.nodes) (Some (node_of s v).kind) None

-- A procedure's record, with how many variables are shared out before it.
unfoldable pub procedure_fits_by : Header → ℕ → ℕ → Procedure → Bool
procedure_fits_by h p shared r =
    eqb r.first shared
    && (leb (r.first + r.count) h.variables
    && (leb r.parameters 16
    && (leb r.parameters r.count
    && (ltb r.body h.nodes
    && (ltb (p + 1) h.procedures || eqb (r.first + r.count) h.variables)))))

module _ (h : Header) (s : List ℕ) (p shared : ℕ) (r : Procedure) (before : shared ≡ shared_before s p) (here : r ≡ procedure_of s p) (x : Bool) (e : x ≡ procedure_fits_by h p shared r) where
  pub procedure_fits-is : x ≡ procedure_fits h s p
  unfolding procedure_fits procedure_fits_by
  procedure_fits-is = e ∙ rw before (ap (λ (z : Procedure). procedure_fits_by h p (shared_before s p) z) here)

  -- One procedure more is shared out.
  pub procedure-shared : x ≡ true → r.first + r.count ≡ shared_before s (p + 1)
  unfolding procedure_fits_by shared_before
  procedure-shared t =
      let first : r.first ≡ shared = eqb-true _ _ (and_parts (eqb r.first shared) _ (sym e ∙ t)).0 in
      let n : p + 1 ≡ suc p = omega arith in
      rw n (ap (λ (z : ℕ). z + r.count) (first ∙ before) ∙ ap (λ (z : Procedure). shared_before s p + z.count) here)

-- The layout by a header that is the image's.
module _ (image : List ℕ) (h : Header) (here : h ≡ header_of image) (v : Verdict) where
  pub layout_is : v ≡ given 2 0 (not (counts_fit h && parts_follow h (length image))) → v ≡ layout_refusal image
  unfolding layout_refusal
  layout_is e = e ∙ ap (λ (z : Header). given 2 0 (not (counts_fit z && parts_follow z (length image)))) here

abbrev pub variable_fits_at : Header → List ℕ → List ℕ → ℕ → Bool
variable_fits_at h procedures variables x = variable_fits h (is_parameter h procedures x) (variable_of variables x)

abbrev pub range_fits : Header → ℕ → ℕ → Bool
range_fits h first count = cond (eqb count 0) (eqb first 0) (leb (first + count) h.variables)

abbrev pub record_fits_at : Header → List ℕ → ℕ → Bool
record_fits_at h nodes n = record_fits h nodes n (node_of nodes n)
