-- A statement takes its step, is taken apart, and does what its case says. It is never refused as no statement.
use mathlib.Core.Path.{refl, sym}
use Rattle.expressions.specs.Relations.{direction_of}
use Rattle.expressions.specs.Results.{passed_on, some_number}
use Rattle.executors.specs.Nodes.{statement_case_lem, opened_at, never_refused, means_at, begin-refused, begin-on}
use Rattle.executors.proofs.begun.Goals as goal

pub returns-in_err-step-clause-begins : goal.returns-in_err-step-clause-begins
returns-in_err-step-clause-begins c =
    λ w p ρ st fine.
    rw (passed_on _ c.from_residual.ensures.1)
    (begin-refused w p _ ρ c.requires _ _ _ _ _ (c.in_err-step.ensures.does c.args.memory.now.cells.now) (some_number c.in_err-step.field-0.0))

pub returns-in_err-node-clause-begins : goal.returns-in_err-node-clause-begins
returns-in_err-node-clause-begins c = λ w p ρ st fine. absurd (never_refused c.requires _ (sym c.in_err-node.ensures))

pub performed-requires : goal.performed-requires
performed-requires c = opened_at c.requires _ (sym c.in_ok-node.ensures)

pub returns-clause-begins : goal.returns-clause-begins
returns-clause-begins c =
    λ w p ρ st fine.
    let e = sym c.in_ok-node.ensures in
    begin-on w p (direction_of c.args.inverse) ρ c.requires _ _ _ _ _ (c.in_ok-step.ensures.does c.args.memory.now.cells.now) refl _ _ _ _ c.performed.result
    (c.performed.ensures.performs w p ρ st (statement_case_lem c.requires _ e) (means_at w c.requires _ e) fine)
