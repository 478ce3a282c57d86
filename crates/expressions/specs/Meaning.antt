-- What a node of the program means as a tree and refers to, for a node that was decoded from the slice that is lent.
use Rattle.std.specs.Prelude.{ℕ, ◌-◌, ◌≤◌, ◌<◌, ◌≡◌, refl, List, [], ◌∷◌, Bool, true, ◌⊎◌, Some, None, Ok, Err}
use Rattle.std.proofs.Common.{sym, ap, ◌∙◌, subst, ⊎_elim, arith}
use Rattle.rules.specs.Image.{missing, Header, Parts, node_of, is_expression, is_lvalue}
use Rattle.rules.specs.Form.{record_fits}
use Rattle.rules.specs.Tree.{reading_at, no_reading}
use Rattle.records.specs.declared.LValue.{LValue}
use Rattle.records.specs.declared.LValue.TheVariants.{Variable, Element, Unsafe}
use Rattle.records.specs.declared.Node.{Node}
use Rattle.records.specs.declared.refusal.Refusal.{Refusal}
use Rattle.records.specs.Decode.{lvalue_at, decoded_at}
use Rattle.records.specs.Fits.{Child}
use Rattle.records.specs.Cases.{place_of, Named, Means, Refers, Understood}
use Rattle.records.specs.Reading.{reading-missing}
use Rattle.records.specs.declared.Node.TheVariants.{Argument}
use Rattle.records.specs.Understood.{stands_at, argument_understood, means, refers_to, not_refused}
use Rattle.expressions.specs.Relations.{Program, bare, Readable, Indexed, Chained}

module _ (h : Header) (s : Parts) {nodes variables constants : List ℕ} (p : Program h s nodes variables constants) where
  pub program-few : h.nodes ≤ missing
  program-few = omega (arith, p.few)

  pub program-fit : (n : ℕ) → n < h.nodes → record_fits h s.nodes n (node_of s.nodes n) ≡ true
  program-fit n l = rw p.nodes_are (p.fit n l)

  module _ (n : ℕ) (inside : n < h.nodes) (x : Node) (e : decoded_at nodes n ≡ Ok x) where
    decoded : decoded_at s.nodes n ≡ Ok x
    decoded = rw p.nodes_are e

    pub program-means : Means h s n x
    program-means = means h s program-few program-fit n inside x decoded

    pub program-refers : Refers h s n x
    program-refers = refers_to h s program-few program-fit n inside x decoded

  -- No node is refused.
  pub program-not_refused : (n : ℕ) → n < h.nodes → (r : Refusal) → decoded_at nodes n ≡ Err r → ⊥
  program-not_refused n inside r e = not_refused h s program-few program-fit n inside r (rw p.nodes_are e)

  -- A node that is an L-value is decoded into one, and is an argument with what follows it.
  module _ (n : ℕ) (inside : n < h.nodes) (i : is_lvalue (node_of nodes n).kind ≡ true) where
    pub program-argument : (l : LValue) → lvalue_at nodes n ≡ Some l → Understood h s n (Ok (Argument l (node_of nodes n).next))
    program-argument l e =
        subst (λ x. is_lvalue (node_of x n).kind ≡ true → lvalue_at x n ≡ Some l → Understood h s n (Ok (Argument l (node_of x n).next))) p.nodes_are
        (λ i e. rw e at (argument_understood h s program-few program-fit 0 n inside i)) i e

    pub program-not_other : lvalue_at nodes n ≡ None → ⊥
    program-not_other e =
        subst (λ x. is_lvalue (node_of x n).kind ≡ true → lvalue_at x n ≡ None → ⊥) p.nodes_are
        (λ i e. rw e at (stands_at h s program-few program-fit n inside i)) i e

  -- No node is 65,535: what follows the last is nothing.
  pub program-missing : reading_at h s missing ≡ no_reading
  program-missing = reading-missing h s program-few

  -- A node that a referring one names is readable.
  pub child_readable : (n : ℕ) (class : ℕ → Bool) (m : ℕ) → Child h s.nodes n class m → Readable class nodes m
  child_readable n class m x = record {
    header = h;
    long = p.long;
    few = p.few;
    fit = p.fit;
    inside = x.inside;
    classed = rw p.nodes_are at x.classed;
  }

  pub named-indexed : (l : LValue) → Named h s l → Indexed nodes l
  unfolding Indexed
  named-indexed (Variable n x) q = tt
  named-indexed (Element n x i) q = child_readable n is_expression i q.1
  named-indexed (Unsafe n x i) q = child_readable n is_expression i q.1

-- A readable node, in whatever program the slice is of.
module _ {class : ℕ → Bool} {nodes : List ℕ} {n : ℕ} (r : Readable class nodes n) where
  -- A program of these nodes alone.
  pub own : Program r.header (bare nodes) nodes [] []
  own = record { nodes_are = refl; variables-are = refl; constants-are = refl; long = r.long; few = r.few; fit = r.fit }

  pub inside_of : (h : Header) (s : Parts) {variables constants : List ℕ} → Program h s nodes variables constants → n < h.nodes
  inside_of h s p = omega (arith, r.long, r.inside, p.long)

  pub readable_refers : (x : Node) → decoded_at nodes n ≡ Ok x → Refers r.header (bare nodes) n x
  readable_refers = program-refers r.header (bare nodes) own n r.inside

  pub readable_child : (class' : ℕ → Bool) (m : ℕ) → Child r.header nodes n class' m → Readable class' nodes m
  readable_child = child_readable r.header (bare nodes) own n

  pub readable_not_refused : (x : Refusal) → decoded_at nodes n ≡ Err x → ⊥
  readable_not_refused = program-not_refused r.header (bare nodes) own n r.inside

-- A readable L-value as an argument: what it lends can be worked out, and what follows it is an argument behind it or missing.
module _ {nodes : List ℕ} {n : ℕ} (r : Readable is_lvalue nodes n) where
  pub argument_place : (h : Header) (s : Parts) {variables constants : List ℕ} → Program h s nodes variables constants → (l : LValue) → lvalue_at nodes n ≡ Some l
      → (m : ℕ) → m ≡ (node_of nodes n).next → (reading_at h s n).as_arguments ≡ place_of h s l ∷ (reading_at h s m).as_arguments
  argument_place h s p l e m next =
      (program-argument h s p n (inside_of r h s p) r.classed l e).0 ∙ ap (λ k. place_of h s l ∷ (reading_at h s k).as_arguments) (sym next)

  pub argument_indexed : (l : LValue) → lvalue_at nodes n ≡ Some l → Indexed nodes l
  argument_indexed l e = named-indexed r.header (bare nodes) (own r) l (program-argument r.header (bare nodes) (own r) n r.inside r.classed l e).1.0

  pub argument_next : (l : LValue) → lvalue_at nodes n ≡ Some l → ((node_of nodes n).next ≡ missing) ⊎ Child r.header nodes n is_lvalue (node_of nodes n).next
  argument_next l e = (program-argument r.header (bare nodes) (own r) n r.inside r.classed l e).1.1

  pub argument_found : lvalue_at nodes n ≡ None → ⊥
  argument_found = program-not_other r.header (bare nodes) (own r) n r.inside r.classed

  module _ (l : LValue) (e : lvalue_at nodes n ≡ Some l) (m : ℕ) (next : m ≡ (node_of nodes n).next) where
    pub next-falls : 65535 - m < 65535 - n
    next-falls =
        let small : n < 4096 = omega (arith, r.inside, r.few) in
        ⊎_elim (λ none. omega (arith, next, none)) (λ x. omega (arith, next, x.behind)) (argument_next l e)

    pub next-chained : Chained nodes m
    next-chained some =
        ⊎_elim (λ none. absurd (some (next ∙ none))) (λ x. rw next (readable_child r is_lvalue _ x)) (argument_next l e)
