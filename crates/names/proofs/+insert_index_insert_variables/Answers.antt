-- The names are taken in where the node's case says that names stand; what the node refers to has a larger number.
use mathlib.Core.Path.{sym, ◌∙◌}
use native.Mathlib.Omega.{arith}
use Rattle.std.proofs.Common.{rules}
use Rattle.records.specs.Decode.{decoded}
use Rattle.names.specs.Marks.{adds_none, adds_both, adds_first}
use Rattle.names.specs.Sound.{standing_child, refers, known_child, behind}
use Rattle.names.specs.Chains.{index_none, index_some, index_stands, root-small}
use Rattle.names.specs.Expressions.{names_none, names_value, value_naming, names_binary, names_not, known_value, own_value}
use Rattle.names.proofs.+insert_index_insert_variables.Goals as goal

pub insert_index-returns-in-Some : goal.insert_index-returns-in-Some
insert_index-returns-in-Some t c =
    λ h s g.
    let e = sym c.index.ensures ∙ c.in-Some.is in
    rw (index_some c.args.nodes.now h s c.args.l e) (c.insert_variables.ensures h s (index_stands c.args.nodes.now h s c.args.l g e))

pub insert_index-returns-in_default : goal.insert_index-returns-in_default
insert_index-returns-in_default t c = λ h s g. rw (index_none c.args.nodes.now h s c.args.l (sym c.index.ensures ∙ c.in_default.is)) (adds_none _)

pub insert_variables-insert_index-requires : goal.insert_variables-insert_index-requires
insert_variables-insert_index-requires t c = let d = decoded c.expression_at.ensures c.in-Ok-Value.is c.in-Ok-Value.field-0-is in (omega (arith, c.decreases, own_value c.requires d), known_value c.requires d)

pub insert_variables-insert_variables-requires : goal.insert_variables-insert_variables-requires
insert_variables-insert_variables-requires t c = let d = decoded c.expression_at.ensures c.in-Ok-Binary.is c.in-Ok-Binary.field-0-is in (omega (arith, c.decreases, behind c.requires d (λ h s r. r.0)), known_child c.requires d (λ h s r. r.0))

pub insert_variables-insert_variables-requires-in-Ok-Binary : goal.insert_variables-insert_variables-requires-in-Ok-Binary
insert_variables-insert_variables-requires-in-Ok-Binary t c = let d = decoded c.expression_at.ensures c.in-Ok-Binary.is c.in-Ok-Binary.field-0-is in (omega (arith, c.decreases, behind c.requires d (λ h s r. r.1)), known_child c.requires d (λ h s r. r.1))

pub insert_variables-insert_variables-requires-in-Ok-Not : goal.insert_variables-insert_variables-requires-in-Ok-Not
insert_variables-insert_variables-requires-in-Ok-Not t c = let d = decoded c.expression_at.ensures c.in-Ok-Not.is c.in-Ok-Not.field-0-is in (omega (arith, c.decreases, behind c.requires d (λ h s r. r)), known_child c.requires d (λ h s r. r))

pub insert_variables-returns-in-Ok-Value : goal.insert_variables-returns-in-Ok-Value
insert_variables-returns-in-Ok-Value t c =
    λ h s st.
    let d = decoded c.expression_at.ensures c.in-Ok-Value.is c.in-Ok-Value.field-0-is in
    let g = value_naming st d in
    rw (names_value st d, ← c.root.ensures) (adds_first (c.insert.ensures (rw c.root.ensures (root-small g))) (c.insert_index.ensures h s g))

pub insert_variables-returns-in-Ok-Binary : goal.insert_variables-returns-in-Ok-Binary
insert_variables-returns-in-Ok-Binary t c =
    λ h s st.
    let d = decoded c.expression_at.ensures c.in-Ok-Binary.is c.in-Ok-Binary.field-0-is in
    rw (names_binary st d) (adds_both (c.insert_variables.ensures h s (standing_child st (refers st d).0)) (c.insert_variables-in-Ok-Binary.ensures h s (standing_child st (refers st d).1)))

pub insert_variables-returns-in-Ok-Not : goal.insert_variables-returns-in-Ok-Not
insert_variables-returns-in-Ok-Not t c = λ h s st. let d = decoded c.expression_at.ensures c.in-Ok-Not.is c.in-Ok-Not.field-0-is in rw (names_not st d) (c.insert_variables-in-Ok-Not.ensures h s (standing_child st (refers st d)))

pub insert_variables-returns : goal.insert_variables-returns
insert_variables-returns t c = λ h s st. rw (names_none st _ c.expression_at.ensures (search rules) (search rules) (search rules)) (adds_none _)

pub insert_variables-returns-2 : goal.insert_variables-returns-2
insert_variables-returns-2 t c = λ h s st. rw (names_none st _ c.expression_at.ensures (search rules) (search rules) (search rules)) (adds_none _)
