-- One test after another: the first that refuses, or what follows.
use Rattle.std.proofs.Common.{rules, ◌∙◌}
use Rattle.rules.specs.Form.{procedure_refusal, variable_refusal, node_refusal}
use Rattle.rules.specs.Check.{form_refusal}
use Rattle.records.specs.Refusals.{then-stops, then-on}
use Rattle.tree.specs.Search.{lowest-is}
use Rattle.form.proofs.parts_form.Goals as goal

pub returns-in_err-lowest : goal.returns-in_err-lowest
unfolding form_refusal procedure_refusal
returns-in_err-lowest c =
    let e = c.in_err-lowest.ensures ∙ lowest-is 3 _ _ _ c.first_bad_procedure.ensures in
    search (rules, then-stops)

pub returns-in_err-lowest-2 : goal.returns-in_err-lowest-2
unfolding form_refusal procedure_refusal variable_refusal
returns-in_err-lowest-2 c =
    let e = c.in_err-lowest-2.ensures ∙ lowest-is 4 _ _ _ c.first_bad_variable.ensures in
    then-on (c.in_ok-lowest.ensures ∙ lowest-is 3 _ _ _ c.first_bad_procedure.ensures) (search (rules, then-stops))

pub returns-in_err-lowest-3 : goal.returns-in_err-lowest-3
unfolding form_refusal procedure_refusal variable_refusal node_refusal
returns-in_err-lowest-3 c =
    let e = c.in_err-lowest-3.ensures ∙ lowest-is 5 _ _ _ c.first_bad_node.ensures in
    then-on (c.in_ok-lowest.ensures ∙ lowest-is 3 _ _ _ c.first_bad_procedure.ensures)
    (then-on (c.in_ok-lowest-2.ensures ∙ lowest-is 4 _ _ _ c.first_bad_variable.ensures) (search (rules, then-stops)))

pub returns : goal.returns
unfolding form_refusal procedure_refusal variable_refusal node_refusal
returns c =
    then-on (c.in_ok-lowest.ensures ∙ lowest-is 3 _ _ _ c.first_bad_procedure.ensures)
    (then-on (c.in_ok-lowest-2.ensures ∙ lowest-is 4 _ _ _ c.first_bad_variable.ensures)
    (then-on (c.in_ok-lowest-3.ensures ∙ lowest-is 5 _ _ _ c.first_bad_node.ensures) c.tree.ensures))
