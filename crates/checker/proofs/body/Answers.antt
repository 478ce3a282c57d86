-- A body is walked with its parameters in scope and nothing declared; what it declares is then taken.
use Rattle.std.proofs.Common.{rules, refl, ap, ◌∙◌}
use Rattle.rules.specs.Image as image
use Rattle.rules.specs.Walk.{body_refusal, undeclared_refusal}
use Rattle.rules.specs.Tree.{body_of}
use Rattle.records.specs.Records.{as_header}
use Rattle.records.specs.Parts.{as_parts}
use Rattle.records.specs.Refusals.{then-stops, then-on}
use Rattle.checker.specs.Prepared.{ranged, standing_body, walked_is, declared-marks}
use Rattle.checker.proofs.body.Goals as goal

pub insert_range-requires : goal.insert_range-requires
insert_range-requires c = (ranged c.requires.0 c.requires.1 c.procedure_at-q.ensures).room

pub statement-requires : goal.statement-requires
statement-requires c = record {
  header = as_header c.args.h;
  parts = as_parts c.args.parts.now;
  standing = standing_body c.requires.0 c.requires.1 c.procedure_at-q.ensures;
  own = refl;
}

pub returns-in_err-statement : goal.returns-in_err-statement
unfolding body_refusal
returns-in_err-statement c =
    let e = walked_is c.requires.0 c.requires.1 c.procedure_at-q.ensures c.new-scope.ensures c.insert_range.ensures c.new-taken.ensures (c.statement.ensures (as_header c.args.h) (as_parts c.args.parts.now)) in
    search (rules, then-stops)

pub undeclared-requires : goal.undeclared-requires
undeclared-requires c = ranged c.requires.0 c.requires.1 c.procedure_at-q.ensures

pub returns : goal.returns
unfolding body_refusal
returns c =
    let walked = walked_is c.requires.0 c.requires.1 c.procedure_at-q.ensures c.new-scope.ensures c.insert_range.ensures c.new-taken.ensures (c.statement.ensures (as_header c.args.h) (as_parts c.args.parts.now)) in
    let marks = declared-marks c.requires.0 c.requires.1 c.procedure_at-q.ensures c.new-scope.ensures c.insert_range.ensures c.new-taken.ensures (c.statement.ensures (as_header c.args.h) (as_parts c.args.parts.now)) c.in_ok-statement.was in
    then-on (rw c.in_ok-statement.was at walked)
    (c.undeclared.ensures _ marks ∙ ap (λ (q : image.Procedure). undeclared_refusal q (body_of (as_header c.args.h) (as_parts c.args.parts.now) c.args.p)) c.procedure_at-q.ensures)
