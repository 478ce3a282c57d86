-- Every procedure before p fits, and so many variables are shared out: where a record fits, its range ends there.
use mathlib.Core.Path.{refl, sym, ◌∙◌}
use native.Mathlib.Omega.{arith}
use Rattle.records.specs.Records.{as_header}
use Rattle.tree.specs.Search.{found_here, found_none, passed-next}
use Rattle.rules.specs.Form.{procedure_fits, shared_before}
use Rattle.form.specs.Tests.{procedure_fits-is, procedure-shared}
use Rattle.form.proofs.first_bad_procedure.Goals as goal

pub loop-p-init : goal.loop-p-init
unfolding shared_before
loop-p-init c = (λ k low high. absurd (omega arith), refl)

pub returns-then-not-procedure_fits : goal.returns-then-not-procedure_fits
returns-then-not-procedure_fits c =
    let e = procedure_fits-is _ _ _ _ _ c.loop-p.invariant.1 c.procedure_at-r.ensures _ c.procedure_fits.ensures in
    found_here _ 0 c.args.h.procedures c.args.h.procedures (omega arith) _ (omega arith) c.loop-p-test.true c.loop-p.invariant.0 (sym e ∙ c.if-not-procedure_fits.true)

pub loop-p-preserved : goal.loop-p-preserved
loop-p-preserved c =
    let e = procedure_fits-is _ _ _ _ _ c.loop-p.invariant.1 c.procedure_at-r.ensures _ c.procedure_fits.ensures in
    (passed-next _ 0 _ c.loop-p.invariant.0 (sym e ∙ c.if-not-procedure_fits.false), c.end-shared.ensures ∙ procedure-shared _ _ _ _ _ c.loop-p.invariant.1 c.procedure_at-r.ensures _ c.procedure_fits.ensures (c.if-not-procedure_fits.false))

pub returns : goal.returns
returns c = found_none (procedure_fits (as_header c.args.h) c.args.procedures.now) 0 _ c.args.h.procedures (omega arith) (λ k low high. c.loop-p.invariant.0 k low (omega arith))
