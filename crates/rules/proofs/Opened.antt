-- One name that opens all definitions of rules: a proof by computation says `unfolding definitions`.
use Prim.Native.Nat.{ℕ}
use Rattle.rules.specs.Words.{opposite, turned, truth, operate, operate1, divides, rotated_left, rotated_right, changed_by, undoing, going, exchanged}
use Rattle.rules.specs.Image.{le32, le64}
use Rattle.rules.specs.Form.{given, ◌then◌, search, lowest, format_refusal, counts_fit, parts_follow, layout_refusal, shared_before, procedure_fits, procedure_refusal, owner, is_parameter, extra_fits, size_fits, variable_fits, variable_refusal, fields, refers, field_fits, operator_fits, record_fits, node_refusal}
use Rattle.rules.specs.Tree.{references_of, node_references, bodies, occurrences, member, reference_refusal, handed, handed_on, handed_down, marked, deeper, depths, begins, chained, stands_in_tree, place_refusal, tree_refusal, range, expr_of, lvalue_of, stmt_of, reading_of, readings, reading_at, body_of, variables, root, index, roots, indices, changed, declared}
use Rattle.rules.specs.Walk.{every, share, repeats, same, secret, passes_array, named, element_refusal, expr_refusal, target_refusal, argument_refusal, arguments_refusal, declarable, swap_clash, same_type, arguments_fit, call_fits, stmt_refusal, undeclared_refusal, body_refusal, walk_refusal}
use Rattle.rules.specs.Check.{form_refusal, verdict_for, slow, verdict, without_unsafe}
use Rattle.rules.specs.Machine.{noted, holding, after, and_then, inside, load, divided, eval, address, lent, arguments, step_from, step, on_found, reading, next, both, in_order, choose, change, exchange, put, left_first, turns_of, counted, zeros, cleared, block_end, first_bound, exec}
use Rattle.rules.specs.Run.{room_of, room_before, home, store_slots, env_of, calls_below, lengths_fit, sum, per_cell, work_refusal, lengths_refusal, cell_refusal, room_refusal, store_refusal, entry_refusal, execution, outcome_of, refused_run, run, trace_after, work_after}

unfoldable pub definitions : ℕ
unfolding opposite turned truth operate operate1 divides rotated_left rotated_right changed_by undoing going exchanged le32 le64 given ◌then◌ search lowest format_refusal counts_fit parts_follow layout_refusal shared_before procedure_fits procedure_refusal owner is_parameter extra_fits size_fits variable_fits variable_refusal fields refers field_fits operator_fits record_fits node_refusal references_of node_references bodies occurrences member reference_refusal handed handed_on handed_down marked deeper depths begins chained stands_in_tree place_refusal tree_refusal range expr_of lvalue_of stmt_of reading_of readings reading_at body_of variables root index roots indices changed declared every share repeats same secret passes_array named element_refusal expr_refusal target_refusal argument_refusal arguments_refusal declarable swap_clash same_type arguments_fit call_fits stmt_refusal undeclared_refusal body_refusal walk_refusal form_refusal verdict_for slow verdict without_unsafe noted holding after and_then inside load divided eval address lent arguments step_from step on_found reading next both in_order choose change exchange put left_first turns_of counted zeros cleared block_end first_bound exec room_of room_before home store_slots env_of calls_below lengths_fit sum per_cell work_refusal lengths_refusal cell_refusal room_refusal store_refusal entry_refusal execution outcome_of refused_run run trace_after work_after
definitions = 0
