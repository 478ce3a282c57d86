-- What an accepted form gives to whoever reads the image: counts in range, parts of their lengths, and every record fits.
use Rattle.std.specs.Prelude.{ℕ, ◌*◌, ◌<◌, ◌≡◌, List, ◌++◌, Bool, true, length}
use Rattle.std.proofs.Common.{◌∙◌, arith, eqb-true, lit<}
use Rattle.rules.specs.Image.{Header, header_of, Parts, parts_of, node_of, variable_of}
use Rattle.rules.specs.Form.{◌then◌, lowest, format_refusal, layout_refusal, procedure_fits, procedure_refusal, is_parameter, variable_fits, variable_refusal, record_fits, node_refusal}
use Rattle.rules.specs.Tree.{bodies, node_references, occurrences, reference_refusal, depths, chained, stands_in_tree, place_refusal, tree_refusal}
use Rattle.rules.specs.Check.{form_refusal}
use Rattle.laws.specs.Verdicts.{Accepted, is_true, then_both, lowest-passed}
use Rattle.laws.specs.Records.{Laid, laid, part_long}

-- Where the lowest place is none, each place passes.
each-passes : (number : ℕ) (passes : ℕ → Bool) (count : ℕ) → 0 < number → Accepted (lowest number passes 0 count) → (k : ℕ) → k < count → passes k ≡ true
each-passes number passes count some e k l = is_true (passes k) (lowest-passed number passes 0 count some e k (omega arith) (omega arith))

-- Every record fits, and the nodes make a tree.
pub record Fitting (h : Header) (s : Parts) : Type 0 where
  pub procedures_fit : (p : ℕ) → p < h.procedures → procedure_fits h s.procedures p ≡ true
  pub variables-fit : (x : ℕ) → x < h.variables → variable_fits h (is_parameter h s.procedures x) (variable_of s.variables x) ≡ true
  pub nodes_fit : (n : ℕ) → n < h.nodes → record_fits h s.nodes n (node_of s.nodes n) ≡ true
  pub once : (n : ℕ) → n < h.nodes → occurrences n (bodies s.procedures 0 h.procedures ++ node_references s.nodes 0 h.nodes) ≡ 1
  pub in_place : (n : ℕ) → n < h.nodes → stands_in_tree (bodies s.procedures 0 h.procedures) (depths h s) (chained h s) n (node_of s.nodes n) ≡ true

pub fitting : (h : Header) (s : Parts) → (form_refusal h s).number ≡ 0 → Fitting h s
unfolding form_refusal procedure_refusal variable_refusal node_refusal tree_refusal reference_refusal place_refusal
fitting h s e =
    let e₃ = then_both (procedure_refusal h s) _ e in
    let e₄ = then_both (variable_refusal h s) _ e₃.1 in
    let e₅ = then_both (node_refusal h s) _ e₄.1 in
    let e₆ = then_both (reference_refusal h s) _ e₅.1 in
    record {
      procedures_fit = each-passes 3 _ _ (lit< tt) e₃.0;
      variables-fit = each-passes 4 _ _ (lit< tt) e₄.0;
      nodes_fit = each-passes 5 _ _ (lit< tt) e₅.0;
      once = λ n l. eqb-true _ _ (each-passes 6 _ _ (lit< tt) e₆.0 n l);
      in_place = each-passes 6 _ _ (lit< tt) e₆.1;
    }

-- An accepted image: its layout, the lengths of its parts, and its records.
pub record Formed (image : List ℕ) : Type 0 where
  pub laid_out : Laid (header_of image) (length image)
  pub procedures_long : length (parts_of image).procedures ≡ (header_of image).procedures * 8
  pub variables-long : length (parts_of image).variables ≡ (header_of image).variables * 6
  pub nodes_long : length (parts_of image).nodes ≡ (header_of image).nodes * 12
  pub constants-long : length (parts_of image).constants ≡ (header_of image).constants * 8
  pub records : Fitting (header_of image) (parts_of image)

pub formed : (image : List ℕ) → (format_refusal image then layout_refusal image then form_refusal (header_of image) (parts_of image)).number ≡ 0 → Formed image
unfolding layout_refusal
formed image e =
    let e₁ = then_both (format_refusal image) _ e in
    let e₂ = then_both (layout_refusal image) _ e₁.1 in
    let h = header_of image in
    let l : Laid (header_of image) (length image) = laid (header_of image) (length image) e₂.0 in
    record {
      laid_out = l;
      procedures_long = part_long image (header_of image).procedure_part (header_of image).variable_part (omega (arith, l)) ∙ (omega (arith, l));
      variables-long = part_long image (header_of image).variable_part (header_of image).node_part (omega (arith, l)) ∙ (omega (arith, l));
      nodes_long = part_long image (header_of image).node_part (header_of image).constant_part (omega (arith, l)) ∙ (omega (arith, l));
      constants-long = part_long image (header_of image).constant_part (header_of image).total (omega (arith, l)) ∙ (omega (arith, l));
      records = fitting (header_of image) (parts_of image) e₂.1;
    }
