-- The walk from 0 is the walk from p: the procedures before p are accepted.
use Rattle.std.proofs.Common.{rules, sym, ◌∙◌}
use Rattle.records.specs.Records.{as_header}
use Rattle.records.specs.Parts.{as_parts}
use Rattle.records.specs.Refusals.{then-stops}
use Rattle.checker.specs.Prepared.{walk_begins, walk_on, walk_stops, walk_ends}
use Rattle.checker.proofs.walk.Goals as goal

pub loop-p-init : goal.loop-p-init
loop-p-init c = walk_begins (as_header c.args.h) (as_parts c.args.parts.now) c.args.h.procedures

pub returns-in_err-body : goal.returns-in_err-body
returns-in_err-body c =
    let e = c.in_err-body.ensures in
    search (rules, then-stops) ∙ sym (c.loop-p.invariant ∙ walk_stops _ _ _ _ c.loop-p-test.true)

pub loop-p-preserved : goal.loop-p-preserved
loop-p-preserved c = c.loop-p.invariant ∙ walk_on _ _ _ _ c.loop-p-test.true c.in_ok-body.ensures

pub returns : goal.returns
returns c = sym (c.loop-p.invariant ∙ walk_ends _ _ _ _ c.loop-p-test.false)
