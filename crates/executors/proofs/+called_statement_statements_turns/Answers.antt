-- The cycle of executors. What falls: the procedure's number, then what lies behind the node; a list forward goes to larger nodes,
-- and a for's turns take the steps that are left.
-- Each way out of a member is one law of specs/: a statement's rest (Doing), a list (Lists, Forward), the turns of a for (Loop), a call (Calls).
use mathlib.Core.Path.{refl, sym, ap, ◌∙◌}
use native.Mathlib.Omega.{arith}
use borrow.Author.Rules.{rules}
use Prim.Native.Nat.{◌-◌}
use Rattle.expressions.specs.Results.{passed_on, some_number}
use Rattle.expressions.specs.Standing.{same_memory, same_run}
use Rattle.executors.specs.Doing.{finished, led, ran-same}
use Rattle.executors.specs.Nodes.{next-behind, next-chain}
use Rattle.executors.specs.Lists.{both-refused, both-on, none, fine_first, fine_rest, list_inverse, end_ran}
use Rattle.executors.specs.Forward.{follows_ends, follows_stops, followed_on}
use Rattle.executors.specs.Loop.{turned-starts, turned_on, loop_stops, loop_ends, turn_refused, body_refused, met_first}
use Rattle.executors.specs.Calls.{rows_below, call_refused, call_on}
use Rattle.executors.proofs.+called_statement_statements_turns.Goals as goal

-- ---- a call

pub called-returns-in_err-arguments-clause-executes : goal.called-returns-in_err-arguments-clause-executes
called-returns-in_err-arguments-clause-executes t c =
    λ w ρ st fine.
    let own = c.from.ensures ∙ ap (λ r. r.first) c.procedure_at-callee.ensures in
    let a = c.in_err-arguments.ensures.apart w.h w.s w.program ρ _ _ st.agree fine.within (rows_below w st _ _ fine _ own) in
    rw (passed_on _ c.from_residual.ensures.1, c.arguments.ensures.keeps.1)
    (call_refused w st _ _ fine _ own _ a.0 _ _ _ _ _ c.arguments.ensures.same.1 a.1 _ (some_number c.in_err-arguments.field-0.0))

pub called-statement-requires : goal.called-statement-requires
called-statement-requires t c = (
  omega (arith, c.decreases, c.if-p-q.false),
  rw c.arguments.ensures.keeps.0 (rw (ap (λ r. r.body) c.procedure_at-callee.ensures) (c.requires.1 _ c.if-p-q.false), λ r l. c.requires.1 r (omega (arith, l, c.if-p-q.false))),
)

pub called-returns-clause-executes : goal.called-returns-clause-executes
called-returns-clause-executes t c =
    λ w ρ st fine.
    let own = c.from.ensures ∙ ap (λ r. r.first) c.procedure_at-callee.ensures in
    let a = c.in_ok-arguments.ensures.apart w.h w.s w.program ρ _ _ st.agree fine.within (rows_below w st _ _ fine _ own) in
    call_on w st _ _ fine _ own _ a.0 _ _ _ _ _ c.arguments.ensures.same.1 a.1 _ refl _ _ _ _ _
    (ap (λ r. r.body) c.procedure_at-callee.ensures) c.arguments.ensures.keeps.3 ((rw (c.arguments.ensures.keeps.0, c.arguments.ensures.keeps.1) at c.statement.ensures.executes) w)

-- ---- a statement

pub statement-statement-requires : goal.statement-statement-requires
statement-statement-requires t c =
    let s = rw c.in-Branch.is at c.in_ok-begun.ensures.sound in
    (omega (arith, c.decreases, s.1, s.0.inside, s.0.code.few), rw c.begun.ensures.keeps.0 (s.0, c.requires.1))

pub statement-turns-requires : goal.statement-turns-requires
statement-turns-requires t c =
    let s = rw c.in-Turns.is at c.in_ok-begun.ensures.sound in
    (omega (arith, c.decreases, s.1.1), rw c.begun.ensures.keeps.0 (s.0, omega (arith, s.1.0, s.1.1), c.requires.1))

pub statement-called-requires : goal.statement-called-requires
statement-called-requires t c =
    let s = rw c.in-Call.is at c.in_ok-begun.ensures.sound in
    (omega (arith, c.decreases), rw c.begun.ensures.keeps.0 (s, c.requires.1))

pub statement-statements-requires : goal.statement-statements-requires
statement-statements-requires t c =
    let s = rw c.in-Block.is at c.in_ok-begun.ensures.sound in
    (omega (arith, c.decreases, s.1.0, c.requires.0.inside, c.requires.0.code.few), rw c.begun.ensures.keeps.0 (s.0, c.requires.1))

pub statement-returns-in_err-statements-in-Block-clause-executes : goal.statement-returns-in_err-statements-in-Block-clause-executes
statement-returns-in_err-statements-in-Block-clause-executes t c =
    λ w ρ st fine.
    let o = rw c.in-Block.is at (c.in_ok-begun.ensures.begins w _ ρ st fine) in
    rw (passed_on _ c.from_residual-in_err-statements-in-Block.ensures.1) (led o.1 (both-refused
    ((rw (c.begun.ensures.keeps.0, c.begun.ensures.keeps.1) at c.in_err-statements-in-Block.ensures.executes) w ρ st o.0.1) _ (some_number c.in_err-statements-in-Block.field-0.0)))

pub statement-returns-in-Finished-clause-executes : goal.statement-returns-in-Finished-clause-executes
statement-returns-in-Finished-clause-executes t c =
    λ w ρ st fine.
    let o = rw c.in-Finished.is at (c.in_ok-begun.ensures.begins w _ ρ st fine) in
    rw c.begun.ensures.keeps.1 (finished o)

pub statement-returns-in-Branch-clause-executes : goal.statement-returns-in-Branch-clause-executes
statement-returns-in-Branch-clause-executes t c =
    λ w ρ st fine.
    let o = rw c.in-Branch.is at (c.in_ok-begun.ensures.begins w _ ρ st fine) in
    led o.1 ((rw (c.begun.ensures.keeps.0, c.begun.ensures.keeps.1) at c.statement.ensures.executes) w ρ st o.0)

pub statement-returns-in-Turns-clause-executes : goal.statement-returns-in-Turns-clause-executes
statement-returns-in-Turns-clause-executes t c =
    λ w ρ st fine.
    let o = rw c.in-Turns.is at (c.in_ok-begun.ensures.begins w _ ρ st fine) in
    led o.1 ((rw (c.begun.ensures.keeps.0, c.begun.ensures.keeps.1) at c.turns.ensures.executes) w ρ st o.0)

pub statement-returns-in-Call-clause-executes : goal.statement-returns-in-Call-clause-executes
statement-returns-in-Call-clause-executes t c =
    λ w ρ st fine.
    let o = rw c.in-Call.is at (c.in_ok-begun.ensures.begins w _ ρ st fine) in
    led o.1 ((rw (c.begun.ensures.keeps.0, c.begun.ensures.keeps.1) at c.called.ensures.executes) w ρ st o.0)

pub statement-returns-in_ok-statements-in-Block-clause-executes : goal.statement-returns-in_ok-statements-in-Block-clause-executes
statement-returns-in_ok-statements-in-Block-clause-executes t c =
    λ w ρ st fine.
    let o = rw c.in-Block.is at (c.in_ok-begun.ensures.begins w _ ρ st fine) in
    led o.1 (both-on
    ((rw (c.begun.ensures.keeps.0, c.begun.ensures.keeps.1) at c.in_ok-statements-in-Block.ensures.executes) w ρ st o.0.1) _ st refl
    (rw c.begun.ensures.keeps.1 at c.statements.ensures.keeps.4)
    (λ st₁. end_ran w st₁ _ _ _ o.0.0 (c.block_end.ensures _ _ _)))

-- ---- a list of statements

pub statements-returns-then-n-eq-MISSING-clause-executes : goal.statements-returns-then-n-eq-MISSING-clause-executes
statements-returns-then-n-eq-MISSING-clause-executes t c = λ w ρ st fine. none w _ _ ρ _ c.if-n-eq-MISSING.true

pub statements-statements-requires : goal.statements-statements-requires
statements-statements-requires t c =
    let sn = c.requires.0 c.if-n-eq-MISSING.false in
    (omega (arith, next-behind sn, c.next_at.ensures, c.decreases, sn.inside, sn.code.few), (rw c.next_at.ensures (next-chain sn), c.requires.1))

pub statements-returns-in_err-statements-clause-executes : goal.statements-returns-in_err-statements-clause-executes
statements-returns-in_err-statements-clause-executes t c =
    λ w ρ st fine.
    let sn = c.requires.0 c.if-n-eq-MISSING.false in
    rw (passed_on _ c.from_residual.ensures.1) (ran-same (list_inverse w sn _ c.args.inverse ρ _ c.next_at.ensures c.if-inverse.true)
    (both-refused (c.in_err-statements.ensures.executes w ρ st (fine_rest w sn _ fine _ c.next_at.ensures)) _ (some_number c.in_err-statements.field-0.0)))

pub statements-statement-requires : goal.statements-statement-requires
statements-statement-requires t c = (omega (arith, c.decreases), rw c.statements.ensures.keeps.0 (c.requires.0 c.if-n-eq-MISSING.false, c.requires.1))

pub statements-returns-then-inverse-clause-executes : goal.statements-returns-then-inverse-clause-executes
statements-returns-then-inverse-clause-executes t c =
    λ w ρ st fine.
    let sn = c.requires.0 c.if-n-eq-MISSING.false in
    ran-same (list_inverse w sn _ c.args.inverse ρ _ c.next_at.ensures c.if-inverse.true)
    (both-on (c.in_ok-statements.ensures.executes w ρ st (fine_rest w sn _ fine _ c.next_at.ensures)) _ st refl
    c.statements.ensures.keeps.4 (λ st₁. (rw c.statements.ensures.keeps.0 at c.statement.ensures.executes) w ρ st₁ (fine_first w sn _ fine)))

pub statements-statement-requires-in-loop-at : goal.statements-statement-requires-in-loop-at
statements-statement-requires-in-loop-at t c =
    let i = c.loop-at.invariant in
    (omega (arith, c.decreases, i.follows.onward), rw i.keeps.0 (i.follows.chain c.loop-at-test.true, c.requires.1))

pub statements-returns-in_err-statement-clause-executes : goal.statements-returns-in_err-statement-clause-executes
statements-returns-in_err-statement-clause-executes t c =
    let i = c.loop-at.invariant in
    rw (passed_on _ c.from_residual-in_err-statement.ensures.1) (follows_stops _ _ c.args.inverse _ _ _ _ _ i.follows c.if-inverse.false (i.follows.chain c.loop-at-test.true) _ _ _ _
    (rw i.keeps.0 at c.in_err-statement.ensures.executes) (some_number c.in_err-statement.field-0.0))

pub statements-loop-at-smaller : goal.statements-loop-at-smaller
statements-loop-at-smaller t c =
    let sm = c.loop-at.invariant.follows.chain c.loop-at-test.true in
    omega (arith, next-behind sm, c.next_at-at.ensures, sm.inside, sm.code.few)

pub statements-loop-at-preserved : goal.statements-loop-at-preserved
statements-loop-at-preserved t c =
    let i = c.loop-at.invariant in
    let sm = i.follows.chain c.loop-at-test.true in
    record {
      keeps = same_memory c.args.memory.now c.loop-at.memory c.statement-in-loop-at.new.memory i.keeps c.statement-in-loop-at.ensures.keeps;
      same = same_run c.args.trace.now c.loop-at.trace c.statement-in-loop-at.new.trace i.same c.statement-in-loop-at.ensures.same;
      follows = record {
        chain = rw c.next_at-at.ensures (next-chain sm);
        onward = omega (arith, next-behind sm, c.next_at-at.ensures, i.follows.onward);
        slots_long = c.statement-in-loop-at.ensures.keeps.4 ∙ i.follows.slots_long;
        followed = followed_on _ _ c.args.inverse _ _ _ _ _ i.follows c.if-inverse.false sm _ _ _ _
            (rw i.keeps.0 at c.in_ok-statement.ensures.executes) refl _ c.next_at-at.ensures;
      };
    }

pub statements-returns-clause-executes : goal.statements-returns-clause-executes
statements-returns-clause-executes t c = follows_ends _ _ c.args.inverse _ _ _ _ _ c.loop-at.invariant.follows c.loop-at-test.false

-- ---- the turns of a for

pub turns-loop-trace-init : goal.turns-loop-trace-init
turns-loop-trace-init t c =
    record {
      keeps = search rules;
      same = search rules;
      turning = record {
        turns = c.args.trace.now.run.left;
        enough = omega arith;
        slots_long = rw c.put.ensures.keeps.1;
        turned = rw c.put.ensures.keeps.1 (turned-starts _ _ _ _ _ _ _);
      };
    }

pub turns-returns-in_err-step-clause-executes : goal.turns-returns-in_err-step-clause-executes
turns-returns-in_err-step-clause-executes t c =
    let i = c.loop-trace.invariant in
    λ w ρ st fine.
    rw (passed_on _ c.from_residual.ensures.1) (loop_stops _ _ _ _ _ _ _ _ i.turning.turned i.turning.slots_long _ c.put.ensures.sets w ρ st fine _ _ _ _ (some_number c.in_err-step.field-0.0)
    (λ st₁ k h. turn_refused _ _ c.args.it _ _ _ _ _ _ (λ e. c.loop-trace-test.true (c.cell.ensures ∙ e)) k h _ _ (c.in_err-step.ensures.does c.loop-trace.memory.cells.now) i.turning.enough (some_number c.in_err-step.field-0.0)))

pub turns-statement-requires : goal.turns-statement-requires
turns-statement-requires t c =
    (omega (arith, c.decreases, c.requires.1, c.requires.0.inside, c.requires.0.code.few), rw c.loop-trace.invariant.keeps.0 (c.requires.0, c.requires.2))

pub turns-returns-in_err-statement-clause-executes : goal.turns-returns-in_err-statement-clause-executes
turns-returns-in_err-statement-clause-executes t c =
    let i = c.loop-trace.invariant in
    λ w ρ st fine.
    rw (passed_on _ c.from_residual-in_err-statement.ensures.1)
    (loop_stops _ _ _ _ _ _ _ _ i.turning.turned i.turning.slots_long _ c.put.ensures.sets w ρ st fine _ _ _ _ (some_number c.in_err-statement.field-0.0)
    (λ st₁ k h. body_refused _ _ c.args.it _ _ _ _ _ _ (λ e. c.loop-trace-test.true (c.cell.ensures ∙ e)) k h _ _ (c.in_ok-step.ensures.does c.loop-trace.memory.cells.now) (λ z. omega (arith, z, c.in_ok-step.ensures.fewer, i.turning.enough)) refl
    _ _ _ _ ((rw i.keeps.0 at c.in_err-statement.ensures.executes) w ρ st₁ fine) (some_number c.in_err-statement.field-0.0)))

pub turns-returns-then-cell-it-clause-executes : goal.turns-returns-then-cell-it-clause-executes
turns-returns-then-cell-it-clause-executes t c =
    let i = c.loop-trace.invariant in
    λ w ρ st fine.
    rw c.at.ensures (loop_stops _ _ _ _ _ _ _ _ i.turning.turned i.turning.slots_long _ c.put.ensures.sets w ρ st fine _ _ _ _ (λ e. omega (arith, e))
    (λ st₁ k h. met_first _ _ c.args.it _ _ _ _ _ _ (λ e. c.loop-trace-test.true (c.cell.ensures ∙ e)) k h _ _ (c.in_ok-step.ensures.does c.loop-trace.memory.cells.now) (λ z. omega (arith, z, c.in_ok-step.ensures.fewer, i.turning.enough)) refl
    _ _ _ _ ((rw i.keeps.0 at c.in_ok-statement.ensures.executes) w ρ st₁ fine) refl (sym c.cell-in-loop-trace.ensures ∙ c.if-cell-it.true)))

pub turns-loop-trace-preserved : goal.turns-loop-trace-preserved
turns-loop-trace-preserved t c =
    let i = c.loop-trace.invariant in
    let fewer = c.in_ok-step.ensures.fewer in
    record {
      keeps = same_memory c.args.memory.now c.loop-trace.memory c.statement.new.memory i.keeps c.statement.ensures.keeps;
      same = same_run c.args.trace.now c.loop-trace.trace c.statement.new.trace i.same (same_run c.loop-trace.trace c.step.new.self c.statement.new.trace c.step.ensures.same c.statement.ensures.same);
      turning = record {
        turns = i.turning.turns - 1;
        enough = omega (arith, fewer, i.turning.enough, c.statement.ensures.same.1);
        slots_long = c.statement.ensures.keeps.4 ∙ i.turning.slots_long;
        turned = turned_on _ _ _ _ _ _ _ _ i.turning.turned i.turning.slots_long (λ e. c.loop-trace-test.true (c.cell.ensures ∙ e)) (λ z. omega (arith, z, fewer, i.turning.enough))
            _ _ (c.in_ok-step.ensures.does c.loop-trace.memory.cells.now) refl _ _ _ _ (rw i.keeps.0 at c.in_ok-statement.ensures.executes) refl (λ e. c.if-cell-it.false (c.cell-in-loop-trace.ensures ∙ e));
      };
    }

pub turns-returns-clause-executes : goal.turns-returns-clause-executes
turns-returns-clause-executes t c =
    let i = c.loop-trace.invariant in
    λ w ρ st fine.
    rw c.put-2.ensures.keeps.1 (loop_ends _ _ _ _ _ _ _ _ i.turning.turned i.turning.slots_long _ c.put.ensures.sets w ρ st fine (sym c.cell.ensures ∙ c.loop-trace-test.false) _ c.put-2.ensures.sets)
