-- What the walk of the procedures rests on: the parts are those of an image whose form is accepted.
use Prim.Native.Nat.{ℕ, suc, ◌+◌, ◌-◌, ◌≤◌, ◌<◌}
use Rattle.std.specs.Prelude.{◌≡◌, refl, List, [], ◌++◌, true, not, ◌||◌, eqb, leb, ltb, Option, unwrap_or, is_some, Result, Ok, ⊤}
use Rattle.std.proofs.Common.{sym, ap, ◌∙◌}
use Rattle.std.proofs.Math.Path.{subst}
use Rattle.std.proofs.Math.Bool.{or-false}
use native.Mathlib.Omega.{arith}
use borrow.Author.Tests.{ltb-true, leb-true}
use Rattle.std.proofs.lemmas.Bool.{and_parts}
use Rattle.rules.specs.Image.{Header, header_of, Parts, parts_of, Procedure, procedure_of, node_of, is_statement}
use Rattle.rules.specs.Form as form
use Rattle.rules.specs.Form.{◌then◌, given, procedure_fits, format_refusal, layout_refusal}
use Rattle.rules.specs.Tree.{Stmt, member, declared, range, reading_at, body_of, bodies, stands_in_tree}
use Rattle.rules.specs.Walk.{stmt_refusal, undeclared_refusal, body_refusal, walk_refusal}
use Rattle.rules.specs.Check.{slow, form_refusal, verdict_for, verdict}
use Rattle.laws.specs.Verdicts.{is_true}
use Rattle.laws.specs.Records.{body_member}
use Rattle.records.specs.Records.{as_procedure}
use Rattle.records.specs.Parts.{as_parts}
use Rattle.records.specs.Refusals.{as_verdict}
use Rattle.records.specs.declared.refusal.Refusal.{Refusal}
use Rattle.records.specs.declared.parts.Parts as code_parts
use Rattle.records.specs.declared.Procedure as code
use Rattle.tree.specs.Search.{found, found-same, lowest-from}
use Rattle.form.specs.Formed.{Formed}
use Rattle.names.specs.declared.marks.Names.{Names}
use Rattle.names.specs.Marks.{Marks, marked, Adds, adds_alone, same-marks, member-append}
use Rattle.names.specs.Sound.{Sound, Standing}
use Rattle.walker.specs.Judge.{row}
use Rattle.walker.specs.Nested.{Setting, Walked}

-- A procedure as the walk uses it: its names are names of the image, its body is a statement.
pub record Bodied (h : Header) (s : Parts) (p : ℕ) : Type 0 where
  pub ends : (procedure_of s.procedures p).first + (procedure_of s.procedures p).count ≤ 1024
  pub parameters : (procedure_of s.procedures p).parameters ≤ (procedure_of s.procedures p).count
  pub inside : (procedure_of s.procedures p).body < h.nodes
  pub classed : is_statement (node_of s.nodes (procedure_of s.procedures p).body).kind ≡ true

pub record Prepared (h : Header) (s : Parts) : Type 0 where
  pub sound : Sound h s
  pub bodied : (p : ℕ) → p < h.procedures → Bodied h s p

-- A procedure's record, as the code reads it.
pub record Ranged (q : code.Procedure) : Type 0 where
  pub ends : q.first + q.count ≤ 1024
  pub parameters : q.parameters ≤ q.count
  pub room : q.first + q.parameters ≤ 1024

module _ {h : Header} {s : Parts} (k : Prepared h s) {p : ℕ} (l : p < h.procedures) {q : code.Procedure} (is : as_procedure q ≡ procedure_of s.procedures p) where
  pub ranged : Ranged q
  ranged =
      let b = k.bodied p l in
      let f : q.first ≡ (procedure_of s.procedures p).first = ap (λ (x : Procedure). x.first) is in
      let n : q.count ≡ (procedure_of s.procedures p).count = ap (λ (x : Procedure). x.count) is in
      let m : q.parameters ≡ (procedure_of s.procedures p).parameters = ap (λ (x : Procedure). x.parameters) is in
      record { ends = omega arith; parameters = omega arith; room = omega arith }

  pub standing_body : Standing is_statement s.nodes h s q.body
  standing_body =
      let b = k.bodied p l in
      subst (λ (x : Procedure). Standing is_statement s.nodes h s x.body) (sym is)
      (record { sound = k.sound; own = refl; inside = b.inside; classed = b.classed })

  -- The tree of the body that the code walks is the body of the rules.
  body_is : (reading_at h s q.body).as_stmt ≡ body_of h s p
  unfolding body_of
  body_is = ap (λ (x : Procedure). (reading_at h s x.body).as_stmt) is

-- ---- 8

-- The lowest name that is not marked is the lowest that is not declared.
pub undeclared_is : (q : Procedure) (taken : Names) (t : Stmt) → Marks taken (declared t) → q.first + q.count ≤ 1024 → q.parameters ≤ q.count → (place : Option ℕ)
    → place ≡ found (marked taken) (q.first + q.parameters) (q.first + q.count - (q.first + q.parameters))
    → given 8 (unwrap_or place 0) (is_some place) ≡ undeclared_refusal q t
unfolding undeclared_refusal
undeclared_is q taken t m ends parameters place e =
    let span : q.first + q.count - (q.first + q.parameters) ≡ q.count - q.parameters = omega arith in
    lowest-from 8 (λ x. member x (declared t)) (q.first + q.parameters) (q.count - q.parameters) place
    (e ∙ ap (λ n. found (marked taken) (q.first + q.parameters) n) span
    ∙ found-same (marked taken) (λ x. member x (declared t)) (q.first + q.parameters) (q.count - q.parameters) (λ x low high. m.at x (omega arith)))

-- ---- a body

-- The first thing that a body is refused for, or what is declared nowhere; q is the procedure's record.
module _ {h : Header} {parts : code_parts.Parts} (k : Prepared h (as_parts parts)) {p : ℕ} (l : p < h.procedures) {q : code.Procedure} (is : as_procedure q ≡ procedure_of parts.procedures.now p)
    {empty scope before after : Names} (e : Marks empty []) (a : Adds empty scope (range q.first q.parameters)) (f : Marks before []) {v : Result ⊤ Refusal}
    (g : Standing is_statement parts.nodes.now h (as_parts parts) q.body
    → Walked (record { parts = parts; procedure = p }) scope before after (as_parts parts) (reading_at h (as_parts parts) q.body).as_stmt v) where
  abbrev Γ : List ℕ
  Γ = range q.first q.parameters

  w : Walked (record { parts = parts; procedure = p }) scope before after (as_parts parts) (body_of h (as_parts parts) p) v
  w = subst (λ t. Walked (record { parts = parts; procedure = p }) scope before after (as_parts parts) t v) (body_is k l is) (g (standing_body k l is))

  setting : Setting (record { parts = parts; procedure = p }) scope before (as_parts parts) Γ []
  setting = record { names = record { own = refl; marks = adds_alone e a }; own = refl; marks = f }

  pub walked_is : as_verdict v ≡ stmt_refusal slow (as_parts parts) p (range (procedure_of parts.procedures.now p).first (procedure_of parts.procedures.now p).parameters) [] (body_of h (as_parts parts) p)
  walked_is = w.is Γ [] setting ∙ ap (λ (x : Procedure). stmt_refusal slow (as_parts parts) p (range x.first x.parameters) [] (body_of h (as_parts parts) p)) is

  pub declared-marks : {x : ⊤} → v ≡ Ok x → Marks after (declared (body_of h (as_parts parts) p))
  declared-marks z =
      same-marks after (declared (body_of h (as_parts parts) p) ++ []) (w.left Γ [] setting z) (declared (body_of h (as_parts parts) p))
      (λ x. member-append x (declared (body_of h (as_parts parts) p)) [] ∙ unfold member in or-false (member x (declared (body_of h (as_parts parts) p))))

-- ---- the procedures in order

module _ (h : Header) (s : Parts) (count p : ℕ) where
  pub walk_on : p < count → form.accepted ≡ body_refusal slow s p (body_of h s p) → walk_refusal slow h s p (count - p) ≡ walk_refusal slow h s (p + 1) (count - (p + 1))
  unfolding walk_refusal ◌then◌
  walk_on l z = let e : count - p ≡ suc (count - (p + 1)) = omega arith in let f : p + 1 ≡ suc p = omega arith in rw (e, ← z, f)

  pub walk_stops : p < count → walk_refusal slow h s p (count - p) ≡ (body_refusal slow s p (body_of h s p) then walk_refusal slow h s (suc p) (count - (p + 1)))
  unfolding walk_refusal
  walk_stops l = let e : count - p ≡ suc (count - (p + 1)) = omega arith in rw e

  pub walk_ends : count ≤ p → walk_refusal slow h s p (count - p) ≡ form.accepted
  unfolding walk_refusal
  walk_ends l = let e : count - p ≡ 0 = omega arith in rw e

pub walk_begins : (h : Header) (s : Parts) (count : ℕ) → walk_refusal slow h s 0 count ≡ walk_refusal slow h s 0 (count - 0)
walk_begins h s count = let e : count - 0 ≡ count = omega arith in rw e

-- ---- an accepted form prepares the walk

module _ (image : List ℕ) (f : Formed image) where
  abbrev h : Header
  h = header_of image

  abbrev s : Parts
  s = parts_of image

  bodied : (p : ℕ) → p < h.procedures → Bodied h s p
  unfolding procedure_fits stands_in_tree
  bodied p l =
      let q = procedure_of s.procedures p in
      let t₁ = and_parts (eqb q.first _) _ (f.records.procedures_fit p l) in
      let t₂ = and_parts (leb (q.first + q.count) h.variables) _ t₁.1 in
      let t₃ = and_parts (leb q.parameters 16) _ t₂.1 in
      let t₄ = and_parts (leb q.parameters q.count) _ t₃.1 in
      let t₅ = and_parts (ltb q.body h.nodes) _ t₄.1 in
      let inside : q.body < h.nodes = ltb-true _ _ t₅.0 in
      let ends : q.first + q.count ≤ h.variables = leb-true _ _ t₂.0 in
      record {
        ends = omega (arith, f.laid_out.few_variables);
        parameters = leb-true _ _ t₄.0;
        inside = inside;
        classed = rw (is_true _ (body_member s.procedures 0 h.procedures p (omega arith) (omega arith))) at (and_parts (not (member q.body (bodies s.procedures 0 h.procedures)) || _) _ (f.records.in_place q.body inside)).0;
      }

  ranges : (p : ℕ) → p < h.procedures → (procedure_of s.procedures p).first + (procedure_of s.procedures p).count ≤ h.variables
  unfolding procedure_fits
  ranges p l =
      let q = procedure_of s.procedures p in
      let t₁ = and_parts (eqb q.first _) _ (f.records.procedures_fit p l) in
      leb-true _ _ (and_parts (leb (q.first + q.count) h.variables) _ t₁.1).0

  pub prepared : Prepared h s
  prepared = record {
    sound = record { few = f.laid_out.few_nodes; names = f.laid_out.few_variables; fit = f.records.nodes_fit; ranges = ranges; parameters = λ p l. (bodied p l).parameters };
    bodied = bodied;
  }

-- The same, for a header and parts that are the image's.
pub prepared_by : (image : List ℕ) → Formed image → (h : Header) (s : Parts) → h ≡ header_of image → s ≡ parts_of image → Prepared h s
prepared_by image f h s e e' = subst (λ (x : Header). Prepared x s) (sym e) (subst (λ (y : Parts). Prepared (header_of image) y) (sym e') (prepared image f))

-- ---- the whole verdict

-- The form's verdict first, then the walk's.
pub verdict-is : (image : List ℕ)
    → verdict image ≡ ((format_refusal image then layout_refusal image then form_refusal (header_of image) (parts_of image)) then walk_refusal slow (header_of image) (parts_of image) 0 (header_of image).procedures)
unfolding verdict verdict_for
verdict-is image =
    sym
    (row (format_refusal image) _ _ refl
    ∙ ap (λ v. format_refusal image then v) (row (layout_refusal image) _ _ refl))
