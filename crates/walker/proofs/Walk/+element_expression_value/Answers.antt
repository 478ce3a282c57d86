-- Children in field order, then the node's own rules; what the node refers to has a larger number.
use mathlib.Core.Path.{refl, sym, ◌∙◌}
use native.Mathlib.Omega.{arith}
use Rattle.rules.specs.Walk.{expr_refusal, secret}
use Rattle.records.specs.Decode.{decoded}
use Rattle.names.specs.Class.{no_expression}
use Rattle.names.specs.Sound.{means, never_refused, expression-classed, standing_child, refers, name_small, known_child, behind}
use Rattle.names.specs.Chains.{index_stands, root-small}
use Rattle.names.specs.Expressions.{value_naming, known_value, own_value}
use Rattle.walker.specs.Judge.{halts, then-on, valued, not_valued, value_element, value_variable}
use Rattle.walker.proofs.Walk.+element_expression_value.Goals as goal

pub element-returns-in_err-hidden : goal.element-returns-in_err-hidden
unfolding expr_refusal
element-returns-in_err-hidden t c = record {
  is = λ h s g Γ sc.
      let f = c.from_residual.ensures.1 in
      let st = index_stands c.args.self.now.parts.nodes.now h s c.args.l g c.requires.1 in
      record { is = halts _ _ _ f (c.in_err-hidden.ensures h s st Γ sc).is; type = not_valued _ _ f _ };
}

pub element-returns : goal.element-returns
unfolding expr_refusal secret
element-returns t c = record {
  is = λ h s g Γ sc.
      let st = index_stands c.args.self.now.parts.nodes.now h s c.args.l g c.requires.1 in
      let j = c.in_ok-hidden.ensures h s st Γ sc in
      record {
        is = then-on j.is (c.element_rules.ensures.is s Γ sc (root-small g) _ (j.type _ refl));
        type = c.element_rules.ensures.type s sc.own;
      };
}

pub value-returns-in-Some : goal.value-returns-in-Some
value-returns-in-Some t c = λ h s g Γ sc. rw (value_element h s c.args.l (sym c.index.ensures ∙ c.in-Some.is)) (c.element.ensures.is h s g Γ sc)

pub value-returns-in-None : goal.value-returns-in-None
value-returns-in-None t c =
    λ h s g Γ sc.
    let v = value_variable h s c.args.l (sym c.index.ensures ∙ c.in-None.is) in
    rw (v.1, ← c.node.ensures, ← c.root.ensures) (c.variable_value.ensures.is s Γ sc (rw c.root.ensures (root-small g)) v.0)

pub expression-returns-in_err-expression_at : goal.expression-returns-in_err-expression_at
expression-returns-in_err-expression_at t c = λ h s st. absurd (never_refused st (sym c.expression_at.ensures ∙ c.in_err-expression_at.was))

pub expression-value-requires : goal.expression-value-requires
expression-value-requires t c = let d = decoded c.expression_at.ensures c.in_ok-expression_at.was c.in-Value.is in (omega (arith, c.decreases, own_value c.requires d), known_value c.requires d)

pub expression-returns-in-Constant : goal.expression-returns-in-Constant
unfolding expr_refusal secret
expression-returns-in-Constant t c =
    λ h s st Γ sc. let d = decoded c.expression_at.ensures c.in_ok-expression_at.was c.in-Constant.is in rw (means st d) (record { is = refl; type = valued _ })

pub expression-returns-in-Value : goal.expression-returns-in-Value
expression-returns-in-Value t c =
    λ h s st Γ sc. let d = decoded c.expression_at.ensures c.in_ok-expression_at.was c.in-Value.is in rw (means st d) (c.value.ensures h s (value_naming st d) Γ sc)

pub expression-returns-in-Size : goal.expression-returns-in-Size
expression-returns-in-Size t c =
    λ h s st Γ sc. let d = decoded c.expression_at.ensures c.in_ok-expression_at.was c.in-Size.is in rw (means st d) (c.size.ensures.is s Γ sc (name_small st (refers st d)))

pub expression-expression-requires : goal.expression-expression-requires
expression-expression-requires t c =
    let d = decoded c.expression_at.ensures c.in_ok-expression_at.was c.in-Binary.is in
    (omega (arith, c.decreases, behind c.requires d (λ h s r. r.0)), known_child c.requires d (λ h s r. r.0))

pub expression-returns-in_err-a-in-Binary : goal.expression-returns-in_err-a-in-Binary
unfolding expr_refusal
expression-returns-in_err-a-in-Binary t c =
    λ h s st Γ sc.
    let d = decoded c.expression_at.ensures c.in_ok-expression_at.was c.in-Binary.is in
    let f = c.from_residual-in_err-a-in-Binary.ensures.1 in
    rw (means st d) (record { is = halts _ _ _ f (c.in_err-a-in-Binary.ensures h s (standing_child st (refers st d).0) Γ sc).is; type = not_valued _ _ f _ })

pub expression-expression-requires-in-Binary : goal.expression-expression-requires-in-Binary
expression-expression-requires-in-Binary t c =
    let d = decoded c.expression_at.ensures c.in_ok-expression_at.was c.in-Binary.is in
    (omega (arith, c.decreases, behind c.requires d (λ h s r. r.1)), known_child c.requires d (λ h s r. r.1))

pub expression-returns-in_err-b-in-Binary : goal.expression-returns-in_err-b-in-Binary
unfolding expr_refusal
expression-returns-in_err-b-in-Binary t c =
    λ h s st Γ sc.
    let d = decoded c.expression_at.ensures c.in_ok-expression_at.was c.in-Binary.is in
    let f = c.from_residual-in_err-b-in-Binary.ensures.1 in
    let a = c.in_ok-a-in-Binary.ensures h s (standing_child st (refers st d).0) Γ sc in
    rw (means st d) (record { is = then-on a.is (halts _ _ _ f (c.in_err-b-in-Binary.ensures h s (standing_child st (refers st d).1) Γ sc).is); type = not_valued _ _ f _ })

pub expression-returns-in_ok-b-in-Binary : goal.expression-returns-in_ok-b-in-Binary
unfolding expr_refusal secret
expression-returns-in_ok-b-in-Binary t c =
    λ h s st Γ sc.
    let d = decoded c.expression_at.ensures c.in_ok-expression_at.was c.in-Binary.is in
    let a = c.in_ok-a-in-Binary.ensures h s (standing_child st (refers st d).0) Γ sc in
    let b = c.in_ok-b-in-Binary.ensures h s (standing_child st (refers st d).1) Γ sc in
    rw (means st d)
    (record {
      is = then-on a.is (then-on b.is (rw (← a.type _ refl, ← b.type _ refl) c.binary.ensures.is));
      type = rw (← a.type _ refl, ← b.type _ refl) c.binary.ensures.type;
    })

pub expression-expression-requires-in-Not : goal.expression-expression-requires-in-Not
expression-expression-requires-in-Not t c =
    let d = decoded c.expression_at.ensures c.in_ok-expression_at.was c.in-Not.is in
    (omega (arith, c.decreases, behind c.requires d (λ h s r. r)), known_child c.requires d (λ h s r. r))

pub expression-returns-in-Not : goal.expression-returns-in-Not
unfolding expr_refusal secret
expression-returns-in-Not t c =
    λ h s st Γ sc.
    let d = decoded c.expression_at.ensures c.in_ok-expression_at.was c.in-Not.is in
    let j = c.expression-in-Not.ensures h s (standing_child st (refers st d)) Γ sc in
    rw (means st d) (record { is = j.is; type = j.type })

pub expression-returns-in_default : goal.expression-returns-in_default
expression-returns-in_default t c =
    λ h s st.
    let d = sym c.expression_at.ensures ∙ c.in_ok-expression_at.was in
    let w = c.in_default in
    absurd (no_expression _ (expression-classed d st) w.not-Constant w.not-Value w.not-Size w.not-Binary w.not-Not)
