-- A node is decoded once; each way out is one law of Nodes for its case. The measure is the distance from the last number: references go to larger ones.
use mathlib.Core.Path.{sym, ap, ◌∙◌}
use borrow.Author.Rules.{rules}
use Rattle.records.specs.declared.Node.TheVariants.{Value}
use Rattle.records.specs.Decode.{decoded}
use Rattle.expressions.specs.Meaning.{readable_not_refused}
use Rattle.expressions.specs.Results.{passed_on, then_found, then_fault}
use Rattle.expressions.proofs.Laws.{found_plain}
use Rattle.expressions.proofs.Nodes.{child_falls, index-falls, value_number, value_named, value_entry, value_size, value_binary, value_not}
use Rattle.expressions.proofs.Targets.{entry_of}
use Rattle.expressions.proofs.Cases.{case_no_other}
use Rattle.expressions.proofs.memory.Reading.+value.Goals as goal

pub returns-in_err-constant-clause-finds : goal.returns-in_err-constant-clause-finds
returns-in_err-constant-clause-finds t c = λ h s p. absurd (readable_not_refused c.requires _ (sym c.in_err-constant.ensures))

pub value-requires : goal.value-requires
value-requires t c = index-falls c.requires _ (entry_of _ _ _ c.in-Element.is) (decoded c.expression_at.ensures c.in_ok-constant.was c.in-Value.is) c.decreases

pub returns-in_err-at-in-Element-clause-finds : goal.returns-in_err-at-in-Element-clause-finds
returns-in_err-at-in-Element-clause-finds t c =
    let d = decoded c.expression_at.ensures c.in_ok-constant.was c.in-Value.is in
    λ h s p.
    rw (passed_on _ c.from_residual-in_err-at-in-Element.ensures.1) (value_entry c.requires _ _ h s p _ (entry_of _ _ _ c.in-Element.is) d
    (then_fault _ _ _ (then_fault _ _ _ (c.in_err-at-in-Element.ensures.finds h s p))))

pub returns-in_err-i-in-Element-clause-finds : goal.returns-in_err-i-in-Element-clause-finds
returns-in_err-i-in-Element-clause-finds t c =
    let d = decoded c.expression_at.ensures c.in_ok-constant.was c.in-Value.is in
    λ h s p.
    rw (passed_on _ c.from_residual-in_err-i-in-Element.ensures.1) (value_entry c.requires _ _ h s p _ (entry_of _ _ _ c.in-Element.is) d
    (then_fault _ _ _ (then_found _ _ _ (c.in_ok-at-in-Element.ensures.finds h s p) (c.in_err-i-in-Element.ensures.finds _ _))))

pub returns-in_ok-i-in-Element-clause-finds : goal.returns-in_ok-i-in-Element-clause-finds
returns-in_ok-i-in-Element-clause-finds t c =
    let d = decoded c.expression_at.ensures c.in_ok-constant.was c.in-Value.is in
    λ h s p.
    value_entry c.requires _ _ h s p _ (entry_of _ _ _ c.in-Element.is) d
    (then_found _ _ _ (then_found _ _ _ (c.in_ok-at-in-Element.ensures.finds h s p) (c.in_ok-i-in-Element.ensures.finds _ _)) c.loaded.ensures.finds)

pub returns-in-Constant-clause-finds : goal.returns-in-Constant-clause-finds
returns-in-Constant-clause-finds t c =
    let d = decoded c.expression_at.ensures c.in_ok-constant.was c.in-Constant.is in
    λ h s p. value_number c.requires _ _ h s p _ _ d c.constant_at.ensures (search rules)

pub returns-in-Variable-clause-finds : goal.returns-in-Variable-clause-finds
returns-in-Variable-clause-finds t c =
    let d = decoded c.expression_at.ensures c.in_ok-constant.was (c.in-Value.is ∙ ap Value c.in-Variable.is) in
    λ h s p. value_named c.requires _ _ h s p _ _ d (c.named.ensures.finds _)

pub returns-in-Size-clause-finds : goal.returns-in-Size-clause-finds
returns-in-Size-clause-finds t c =
    let d = decoded c.expression_at.ensures c.in_ok-constant.was c.in-Size.is in
    λ h s p. rw c.count_of.ensures.0 (value_size c.requires _ _ h s p _ d)

pub value-requires-in-Binary : goal.value-requires-in-Binary
value-requires-in-Binary t c = child_falls c.requires (decoded c.expression_at.ensures c.in_ok-constant.was c.in-Binary.is) (λ q. q.0) c.decreases

pub returns-in_err-v-in-Binary-clause-finds : goal.returns-in_err-v-in-Binary-clause-finds
returns-in_err-v-in-Binary-clause-finds t c =
    let d = decoded c.expression_at.ensures c.in_ok-constant.was c.in-Binary.is in
    λ h s p.
    rw (passed_on _ c.from_residual-in_err-v-in-Binary.ensures.1) (value_binary c.requires _ _ h s p _ _ _ d (then_fault _ _ _ (c.in_err-v-in-Binary.ensures.finds h s p)))

pub value-requires-in-Binary-2 : goal.value-requires-in-Binary-2
value-requires-in-Binary-2 t c = child_falls c.requires (decoded c.expression_at.ensures c.in_ok-constant.was c.in-Binary.is) (λ q. q.1) c.decreases

pub returns-in_err-w-in-Binary-clause-finds : goal.returns-in_err-w-in-Binary-clause-finds
returns-in_err-w-in-Binary-clause-finds t c =
    let d = decoded c.expression_at.ensures c.in_ok-constant.was c.in-Binary.is in
    λ h s p.
    rw (passed_on _ c.from_residual-in_err-w-in-Binary.ensures.1) (value_binary c.requires _ _ h s p _ _ _ d
    (then_found _ _ _ (c.in_ok-v-in-Binary.ensures.finds h s p) (then_fault _ _ _ (c.in_err-w-in-Binary.ensures.finds h s p))))

pub returns-in_ok-w-in-Binary-clause-finds : goal.returns-in_ok-w-in-Binary-clause-finds
returns-in_ok-w-in-Binary-clause-finds t c =
    let d = decoded c.expression_at.ensures c.in_ok-constant.was c.in-Binary.is in
    λ h s p.
    value_binary c.requires _ _ h s p _ _ _ d
    (then_found _ _ _ (c.in_ok-v-in-Binary.ensures.finds h s p) (then_found _ _ _ (c.in_ok-w-in-Binary.ensures.finds h s p) (c.combined.ensures _ _)))

pub value-requires-in-Not : goal.value-requires-in-Not
value-requires-in-Not t c = child_falls c.requires (decoded c.expression_at.ensures c.in_ok-constant.was c.in-Not.is) (λ q. q) c.decreases

pub returns-in_err-v-in-Not-clause-finds : goal.returns-in_err-v-in-Not-clause-finds
returns-in_err-v-in-Not-clause-finds t c =
    let d = decoded c.expression_at.ensures c.in_ok-constant.was c.in-Not.is in
    λ h s p.
    rw (passed_on _ c.from_residual-in_err-v-in-Not.ensures.1) (value_not c.requires _ _ h s p _ d (then_fault _ _ _ (c.in_err-v-in-Not.ensures.finds h s p)))

pub returns-in_ok-v-in-Not-clause-finds : goal.returns-in_ok-v-in-Not-clause-finds
returns-in_ok-v-in-Not-clause-finds t c =
    let d = decoded c.expression_at.ensures c.in_ok-constant.was c.in-Not.is in
    λ h s p. value_not c.requires _ _ h s p _ d (then_found _ _ _ (c.in_ok-v-in-Not.ensures.finds h s p) (rw c.complement.ensures (found_plain _)))

pub returns-in_default-clause-finds : goal.returns-in_default-clause-finds
returns-in_default-clause-finds t c = λ h s p. absurd (case_no_other c.requires _ (sym c.in_ok-constant.ensures) (search rules))
