-- The roots that a statement changes stand where its case says; what it refers to has a larger number.
use Rattle.names.specs.Statements.{known_call, touches_call, touches_swap, begun, known_begun, begun-behind, changed-nothing, changed-update, changed-if, changed-for, changed_block, changed-list, changed-none, update_target}
use mathlib.Core.Path.{refl, sym, ◌∙◌}
use native.Mathlib.Omega.{arith}
use Rattle.std.proofs.Common.{rules}
use Rattle.records.specs.Decode.{decoded}
use Rattle.names.specs.Marks.{touches_none, touches_one, touches_left, touches_right}
use Rattle.names.specs.Sound.{standing_child, refers, known_child, behind}
use Rattle.names.specs.Chains.{root-small, chain_standing, later_statements, known_statements, statement-ahead}
use Rattle.names.proofs.+changes_list_changes.Goals as goal

pub changes-changes-requires : goal.changes-changes-requires
changes-changes-requires t c = let d = decoded c.node_at.ensures c.in-Ok-If.is c.in-Ok-If.field-0-is in (omega (arith, c.decreases, behind c.requires d (λ h s r. r.1.0)), known_child c.requires d (λ h s r. r.1.0))

pub changes-changes-requires-else-changes : goal.changes-changes-requires-else-changes
changes-changes-requires-else-changes t c = let d = decoded c.node_at.ensures c.in-Ok-If.is c.in-Ok-If.field-0-is in (omega (arith, c.decreases, behind c.requires d (λ h s r. r.1.1)), known_child c.requires d (λ h s r. r.1.1))

pub changes-changes-requires-in-Ok-For : goal.changes-changes-requires-in-Ok-For
changes-changes-requires-in-Ok-For t c = let d = decoded c.node_at.ensures c.in-Ok-For.is c.in-Ok-For.field-0-is in (omega (arith, c.decreases, behind c.requires d (λ h s r. r.1.1.1)), known_child c.requires d (λ h s r. r.1.1.1))

pub changes-roots_marked-requires : goal.changes-roots_marked-requires
changes-roots_marked-requires t c = known_call c.requires (sym c.node_at.ensures ∙ c.in-Ok-Call.is) (search rules)

pub changes-list_changes-requires : goal.changes-list_changes-requires
changes-list_changes-requires t c = let d = decoded c.node_at.ensures c.in-Ok-Block.is c.in-Ok-Block.field-0-is in (omega (arith, c.decreases, begun-behind c.requires d (λ h s r. r.1)), known_begun c.requires d (λ h s r. r.1))

pub changes-returns-in-Ok-Update : goal.changes-returns-in-Ok-Update
changes-returns-in-Ok-Update t c =
    λ h s st.
    let d = decoded c.node_at.ensures c.in-Ok-Update.is c.in-Ok-Update.field-0-is in
    rw (changed-update st d, ← c.root.ensures) (touches_one (rw c.root.ensures (root-small (update_target st d))) c.contains.ensures.tells)

pub changes-returns-in-Ok-Swap : goal.changes-returns-in-Ok-Swap
changes-returns-in-Ok-Swap t c = λ h s st. search (rules, touches_swap st (sym c.node_at.ensures ∙ c.in-Ok-Swap.is))

pub changes-returns-then-changes : goal.changes-returns-then-changes
changes-returns-then-changes t c =
    λ h s st.
    let d = decoded c.node_at.ensures c.in-Ok-If.is c.in-Ok-If.field-0-is in
    rw (changed-if st d) (touches_left _ (c.changes.ensures h s (standing_child st (refers st d).1.0)) c.if-changes.true)

pub changes-returns-else-changes : goal.changes-returns-else-changes
changes-returns-else-changes t c =
    λ h s st.
    let d = decoded c.node_at.ensures c.in-Ok-If.is c.in-Ok-If.field-0-is in
    rw (changed-if st d)
    (touches_right (c.changes.ensures h s (standing_child st (refers st d).1.0)) c.if-changes.false (c.changes-else-changes.ensures h s (standing_child st (refers st d).1.1)))

pub changes-returns-in-Ok-For : goal.changes-returns-in-Ok-For
changes-returns-in-Ok-For t c = λ h s st. let d = decoded c.node_at.ensures c.in-Ok-For.is c.in-Ok-For.field-0-is in rw (changed-for st d) (c.changes-in-Ok-For.ensures h s (standing_child st (refers st d).1.1.1))

pub changes-returns-in-Ok-Call : goal.changes-returns-in-Ok-Call
changes-returns-in-Ok-Call t c = λ h s st. touches_call st (sym c.node_at.ensures ∙ c.in-Ok-Call.is) (search rules) c.roots_marked.ensures

pub changes-returns-in-Ok-Block : goal.changes-returns-in-Ok-Block
changes-returns-in-Ok-Block t c = λ h s st. let d = decoded c.node_at.ensures c.in-Ok-Block.is c.in-Ok-Block.field-0-is in rw (changed_block st d) (c.list_changes.ensures h s (begun st (refers st d).1))

pub changes-returns-in_default : goal.changes-returns-in_default
changes-returns-in_default t c = λ h s st. rw (changed-nothing st _ c.node_at.ensures (search rules) (search rules) (search rules) (search rules) (search rules) (search rules) (search rules) (search rules)) touches_none

pub changes-returns-in_default-2 : goal.changes-returns-in_default-2
changes-returns-in_default-2 t c = λ h s st. rw (changed-nothing st _ c.node_at.ensures (search rules) (search rules) (search rules) (search rules) (search rules) (search rules) (search rules) (search rules)) touches_none

pub list_changes-returns-then-n-eq-MISSING : goal.list_changes-returns-then-n-eq-MISSING
list_changes-returns-then-n-eq-MISSING t c = λ h s k. rw (changed-none k c.if-n-eq-MISSING.true) touches_none

pub list_changes-returns-then-changes : goal.list_changes-returns-then-changes
list_changes-returns-then-changes t c =
    λ h s k.
    let st = chain_standing k c.if-n-eq-MISSING.false in
    rw (changed-list st refl) (touches_left _ (c.changes.ensures h s st) c.if-changes.true)

pub list_changes-list_changes-requires : goal.list_changes-list_changes-requires
list_changes-list_changes-requires t c = (omega (arith, c.decreases, statement-ahead c.requires c.if-n-eq-MISSING.false c.next_at.ensures), known_statements c.requires c.if-n-eq-MISSING.false c.next_at.ensures)

pub list_changes-returns-else-changes : goal.list_changes-returns-else-changes
list_changes-returns-else-changes t c =
    λ h s k.
    let st = chain_standing k c.if-n-eq-MISSING.false in
    rw (changed-list st c.next_at.ensures) (touches_right (c.changes.ensures h s st) c.if-changes.false (c.list_changes.ensures h s (later_statements st c.next_at.ensures)))
