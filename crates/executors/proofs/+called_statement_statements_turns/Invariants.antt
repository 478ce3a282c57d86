-- A body's calls go to an earlier procedure, a child has a larger number, and a loop's turns take steps of what is left.
use Rattle.std.proofs.Common.{◌-◌}
use Rattle.expressions.specs.Relations.{direction_of}
use Rattle.expressions.specs.Standing.{going, SameMemory, SameRun}
use Rattle.executors.specs.Ways.{statement_rank, statements_rank, turns_rank, called_rank}
use Rattle.executors.specs.Forward.{Follows}
use Rattle.executors.specs.Loop.{Keeps}
use Rattle.executors.proofs.+called_statement_statements_turns.Given as goal

abbrev pub decreases-called : goal.decreases-called
decreases-called l = called_rank l.p

abbrev pub decreases-statement : goal.decreases-statement
decreases-statement l = statement_rank l.p l.n

abbrev pub decreases-statements : goal.decreases-statements
decreases-statements l = statements_rank l.p l.n

abbrev pub decreases-turns : goal.decreases-turns
decreases-turns l = turns_rank l.p l.it.node

abbrev pub invariant-statements-loop-at : goal.invariant-statements-loop-at
invariant-statements-loop-at l = record {
  keeps : SameMemory l.fn.memory l.memory;
  same : SameRun l.fn.trace l.trace;
  follows : Follows l.fn.memory.parts.now.nodes.now l.fn.memory.parts.now.procedures.now l.fn.memory.parts.now.variables.now l.fn.memory.parts.now.constants.now
      (direction_of l.inverse) l.p l.n l.fn.memory.cells.now l.fn.memory.slots.now l.fn.trace.events.now (going l.fn.trace)
      l.at l.memory.cells.now l.memory.slots.now l.trace.events.now (going l.trace);
}

abbrev pub decreases-statements-loop-at : goal.decreases-statements-loop-at
decreases-statements-loop-at l = 65535 - l.at

abbrev pub invariant-turns-loop-trace : goal.invariant-turns-loop-trace
invariant-turns-loop-trace l = record {
  keeps : SameMemory l.fn.memory l.memory;
  same : SameRun l.fn.trace l.trace;
  turning : Keeps l.fn.memory.parts.now.nodes.now l.fn.memory.parts.now.procedures.now l.fn.memory.parts.now.variables.now l.fn.memory.parts.now.constants.now
      (direction_of l.inverse) l.p l.it l.initial.memory.cells.now l.fn.memory.slots.now l.fn.trace.events.now (going l.fn.trace)
      l.memory.cells.now l.memory.slots.now l.trace.events.now (going l.trace);
}

abbrev pub decreases-turns-loop-trace : goal.decreases-turns-loop-trace
decreases-turns-loop-trace l = l.trace.run.left
