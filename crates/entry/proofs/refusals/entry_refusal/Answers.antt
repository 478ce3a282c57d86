-- Each test in turn: where it fails its refusal is the answer, and where it passes the next one's is.
use Rattle.std.proofs.Common.{sym, ap, ◌∙◌, arith}
use Rattle.std.proofs.lemmas.Result.{err_from_is_err_and}
use Rattle.rules.specs.Image.{Procedure}
use Rattle.rules.specs.Run.{work_refusal, store_refusal, room_refusal}
use Rattle.records.specs.Records.{as_header, as_procedure}
use Rattle.records.specs.Parts.{as_parts}
use Rattle.records.specs.Refusals.{then-stops, then-goes}
use Rattle.entry.proofs.Searches.{found-below}
use Rattle.entry.proofs.Order.{Fitting, passed-says, lengths-is, cell-found, cell-none, room-is}
use Rattle.entry.proofs.refusals.entry_refusal.Goals as goal

pub returns-in_err-given : goal.returns-in_err-given
unfolding work_refusal
returns-in_err-given c =
    let p = err_from_is_err_and c.from_residual.result c.from_residual.ensures.1 in
    rw (p.1, p.2) (then-stops c.in_err-given.field-0.0 (work_refusal c.args.works) _ c.in_err-given.ensures)

pub returns-in_err-given-2 : goal.returns-in_err-given-2
unfolding work_refusal store_refusal
returns-in_err-given-2 c =
    let p = err_from_is_err_and c.from_residual-in_err-given-2.result c.from_residual-in_err-given-2.ensures.1 in
    let r = c.in_err-given-2.field-0.0 in
    let lengths_are = lengths-is (as_header c.args.h) (as_parts c.args.parts.now) c.args.lengths.now c.args.store.now _ c.procedure_at-last.ensures _ c.lengths_fit-fit.ensures in
    rw (p.1, p.2)
    (then-stops r _ _ (then-stops r _ _ (c.in_err-given-2.ensures ∙ lengths_are))
    ∙ sym (then-goes c.in_ok-given.field-0 (work_refusal c.args.works) _ c.in_ok-given.ensures))

pub first_wide_cell-requires : goal.first_wide_cell-requires
first_wide_cell-requires c =
    let q = as_procedure c.procedure_at-last.result in
    let says : Fitting (as_parts c.args.parts.now) q c.args.lengths.now c.args.store.now = passed-says _ _ _ _ _ c.lengths_fit-fit.ensures c.in_ok-given-2.ensures in
    let first_is = ap (λ (p : Procedure). p.first) c.procedure_at-last.ensures in
    let parameters_are = ap (λ (p : Procedure). p.parameters) c.procedure_at-last.ensures in
    (omega (arith, says.counted, c.requires.inside), says.whole)

pub overflow_cast-i : goal.overflow_cast-i
overflow_cast-i c =
    let q = as_procedure c.procedure_at-last.result in
    let says : Fitting (as_parts c.args.parts.now) q c.args.lengths.now c.args.store.now = passed-says _ _ _ _ _ c.lengths_fit-fit.ensures c.in_ok-given-2.ensures in
    let parameters_are = ap (λ (p : Procedure). p.parameters) c.procedure_at-last.ensures in
    omega (arith, found-below _ _ _ (sym c.in-Some.is ∙ c.first_wide_cell.ensures), says.short, parameters_are, c.requires.few)

pub returns-in-Some : goal.returns-in-Some
unfolding work_refusal store_refusal
returns-in-Some c =
    let h = as_header c.args.h in
    let s = as_parts c.args.parts.now in
    let lengths = c.args.lengths.now in
    let store = c.args.store.now in
    let lengths_are = lengths-is h s lengths store _ c.procedure_at-last.ensures _ c.lengths_fit-fit.ensures in
    let found = cell-found h s lengths store _ c.procedure_at-last.ensures _ c.first_wide_cell.ensures _ c.in-Some.is in
    then-stops c.at.result _ (room_refusal h s store) (rw c.at.ensures (found ∙ sym (then-goes c.in_ok-given-2.field-0 _ _ (c.in_ok-given-2.ensures ∙ lengths_are))))
    ∙ sym (then-goes c.in_ok-given.field-0 (work_refusal c.args.works) _ c.in_ok-given.ensures)

pub returns : goal.returns
unfolding work_refusal store_refusal
returns c =
    let h = as_header c.args.h in
    let s = as_parts c.args.parts.now in
    let lengths = c.args.lengths.now in
    let store = c.args.store.now in
    let x = c.in_ok-given.field-0 in
    let lengths_are = lengths-is h s lengths store _ c.procedure_at-last.ensures _ c.lengths_fit-fit.ensures in
    let none = cell-none h s lengths store _ c.procedure_at-last.ensures _ c.first_wide_cell.ensures c.in_default.is in
    c.given-3.ensures ∙ room-is h s lengths store _ c.procedure_at-last.ensures _ c.room-room.ensures.0
    ∙ sym (then-goes x _ (room_refusal h s store) (none ∙ sym (then-goes x _ _ (c.in_ok-given-2.ensures ∙ lengths_are))))
    ∙ sym (then-goes x (work_refusal c.args.works) _ c.in_ok-given.ensures)
