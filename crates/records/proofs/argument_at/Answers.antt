-- The target's case, found from the record, picks the definition's side.
use mathlib.Core.Path.{◌≡◌, sym, ap, ◌∙◌}
use Rattle.rules.specs.Image as rules
use Rattle.records.specs.Decode.{lvalue_by, lvalue_at}
use Rattle.std.specs.Prelude.{Some, None, Ok, Err}
use Rattle.records.specs.declared.Node.TheVariants.{Argument}
use Rattle.records.proofs.argument_at.Goals as goal

pub returns-in_default : goal.returns-in_default
returns-in_default c =
    let is = c.lvalue_of.ensures ∙ ap (lvalue_by c.args.n) c.record_at-r.ensures in
    let e : lvalue_at c.args.nodes.now c.args.n ≡ None = sym is ∙ c.in_default.is in
    rw e (ap (λ r. Err r) c.at.ensures)

pub returns : goal.returns
returns c =
    let is = c.lvalue_of.ensures ∙ ap (lvalue_by c.args.n) c.record_at-r.ensures in
    let e : lvalue_at c.args.nodes.now c.args.n ≡ Some c.in-Some.target = sym is ∙ c.in-Some.is in
    rw e (ap (λ (r : rules.Node). Ok (Argument c.in-Some.target r.next)) c.record_at-r.ensures)
