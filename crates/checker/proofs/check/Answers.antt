-- The form's verdict where it refuses, else the walk's.
use Rattle.std.proofs.Common.{rules, sym, ap, ◌∙◌}
use Rattle.rules.specs.Image as image
use Rattle.rules.specs.Form as form
use Rattle.rules.specs.Walk.{walk_refusal}
use Rattle.rules.specs.Check.{slow}
use Rattle.records.specs.Parts.{as_parts}
use Rattle.records.specs.Refusals.{then-stops, then-on}
use Rattle.form.specs.Formed.{formed}
use Rattle.checker.specs.Prepared.{prepared_by, verdict-is}
use Rattle.checker.proofs.check.Goals as goal

pub returns-in_err-form : goal.returns-in_err-form
returns-in_err-form c =
    let e = c.in_err-form.ensures in
    search (rules, then-stops) ∙ sym (verdict-is c.args.image.now)

pub walk-requires : goal.walk-requires
walk-requires c = prepared_by c.args.image.now (formed c.args.image.now (sym (ap (λ (v : form.Verdict). v.number) c.in_ok-form.ensures))) _ _ c.header_of.ensures c.parts_of.ensures

pub returns : goal.returns
returns c =
    then-on c.in_ok-form.ensures
    (c.walk.ensures
    ∙ ap (λ (h : image.Header). walk_refusal slow h (as_parts c.parts_of.result) 0 h.procedures) c.header_of.ensures
    ∙ ap (λ (s : image.Parts). walk_refusal slow (image.header_of c.args.image.now) s 0 (image.header_of c.args.image.now).procedures) c.parts_of.ensures)
    ∙ sym (verdict-is c.args.image.now)
