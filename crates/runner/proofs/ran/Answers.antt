-- `runner::ran` meets its contract: the check's refusals come first, then 19 to 22, and behind them the execution's end is told.
-- Assumes nothing.
use mathlib.Core.Path.{sym, ap, ◌∙◌}
use native.Mathlib.Omega.{arith}
use lib.ListN.{length}
use Rattle.std.proofs.lemmas.Result.{err_from_is_err_and}
use Rattle.rules.specs.Form as rules
use Rattle.rules.specs.Image as image
use Rattle.runner.specs.Runs.{Ready}
use Rattle.runner.proofs.Entrance.{last-called, ready, few_cells, enough, tested, worked-at}
use Rattle.runner.proofs.Told.{ran-unchecked, ran-late, ran-through}
use Rattle.runner.proofs.ran.Goals as goal

pub returns-in_err-check-clause-ran : goal.returns-in_err-check-clause-ran
returns-in_err-check-clause-ran c =
    let p = err_from_is_err_and c.from_residual.result c.from_residual.ensures.1 in
    rw (p.1, p.2) (ran-unchecked c.args.image.now _ _ _ _ _ c.requires.begins _ c.in_err-check.ensures)

pub entry_refusal-requires : goal.entry_refusal-requires
entry_refusal-requires c = rw (c.header_of-h.ensures, c.parts_of-parts.ensures) (last-called c.args.image.now (ap (λ (v : rules.Verdict). v.number) (sym c.in_ok-check.ensures)))

pub returns-in_err-entry_refusal-clause-ran : goal.returns-in_err-entry_refusal-clause-ran
returns-in_err-entry_refusal-clause-ran c =
    let p = err_from_is_err_and c.from_residual-in_err-entry_refusal.result c.from_residual-in_err-entry_refusal.ensures.1 in
    rw (p.1, p.2) (ran-late c.args.image.now _ _ _ _ _ c.requires.begins (ap (λ (v : rules.Verdict). v.number) (sym c.in_ok-check.ensures)) _
    (c.in_err-entry_refusal.ensures ∙ tested c.args.image.now _ _ _ _ _ c.header_of-h.ensures c.parts_of-parts.ensures))

pub worked-verdict-requires : goal.worked-verdict-requires
worked-verdict-requires c = record {
  ready = rw (c.header_of-h.ensures, c.parts_of-parts.ensures)
      (ready c.args.image.now (ap (λ (v : rules.Verdict). v.number) (sym c.in_ok-check.ensures)) _ _ _
      (ap (λ (v : rules.Verdict). v.number) (sym (c.in_ok-entry_refusal.ensures ∙ tested c.args.image.now _ _ _ _ _ c.header_of-h.ensures c.parts_of-parts.ensures))));
  begins = c.requires.begins;
}

pub finished-requires : goal.finished-requires
finished-requires c =
    let r : Ready (image.header_of c.args.image.now) (image.parts_of c.args.image.now) (length c.args.work.now) c.args.lengths.now c.args.store.now =
    ready c.args.image.now (ap (λ (v : rules.Verdict). v.number) (sym c.in_ok-check.ensures)) _ _ _
    (ap (λ (v : rules.Verdict). v.number) (sym (c.in_ok-entry_refusal.ensures ∙ tested c.args.image.now _ _ _ _ _ c.header_of-h.ensures c.parts_of-parts.ensures))) in
    omega (arith, few_cells r, enough r, c.worked-verdict.auto.work)

pub returns-clause-ran : goal.returns-clause-ran
returns-clause-ran c =
    ran-through c.args.image.now _ _ _ _ _ c.requires.begins (ap (λ (v : rules.Verdict). v.number) (sym c.in_ok-check.ensures)) _
    (c.in_ok-entry_refusal.ensures ∙ tested c.args.image.now _ _ _ _ _ c.header_of-h.ensures c.parts_of-parts.ensures)
    c.requires.left _ _ _ _ _ c.worked-verdict.ensures.same.0.1 c.worked-verdict.auto.work
    (worked-at c.args.image.now _ _ _ _ _ _ _ _ _ c.header_of-h.ensures c.parts_of-parts.ensures c.worked-verdict.ensures.worked) c.finished.ensures
