-- One test after another; an accepted layout says how many nodes there are at most.
use Rattle.std.proofs.Common.{rules, sym, ◌∙◌, ap}
use Rattle.rules.specs.Image as image
use Rattle.rules.specs.Form.{Verdict}
use Rattle.rules.specs.Check.{form_refusal}
use Rattle.laws.specs.Records.{laid}
use Rattle.records.specs.Parts.{as_parts}
use Rattle.records.specs.Refusals.{then-stops, then-on}
use Rattle.form.specs.Tests.{layout_is}
use Rattle.form.proofs.form.Goals as goal

pub returns-in_err-format : goal.returns-in_err-format
returns-in_err-format c = search (rules, then-stops)

pub returns-in_err-layout : goal.returns-in_err-layout
returns-in_err-layout c =
    let e = layout_is c.args.image.now _ c.header_of-h.ensures _ c.in_err-layout.ensures in
    then-on c.in_ok-format.ensures (search (rules, then-stops))

pub parts_form-requires : goal.parts_form-requires
parts_form-requires c = (laid _ _ (ap (λ (v : Verdict). v.number) (sym c.in_ok-layout.ensures))).few_nodes

pub returns : goal.returns
returns c =
    then-on c.in_ok-format.ensures
    (then-on (layout_is c.args.image.now _ c.header_of-h.ensures _ c.in_ok-layout.ensures)
    (c.parts_form.ensures
    ∙ ap (λ (h : image.Header). form_refusal h (as_parts c.parts_of.result)) c.header_of-h.ensures
    ∙ ap (λ (s : image.Parts). form_refusal (image.header_of c.args.image.now) s) c.parts_of.ensures))
