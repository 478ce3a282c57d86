-- A name is looked for where the node's case says that names stand; what the node refers to has a larger number.
use mathlib.Core.Path.{sym, ◌∙◌}
use native.Mathlib.Omega.{arith}
use Rattle.std.proofs.Common.{rules}
use Rattle.rules.specs.Tree.{member}
use Rattle.records.specs.Decode.{decoded}
use Rattle.names.specs.Marks.{member-here, member-later, member-left, member_right}
use Rattle.names.specs.Sound.{standing_child, refers, known_child, behind}
use Rattle.names.specs.Chains.{index_none, index_some, index_stands}
use Rattle.names.specs.Expressions.{names_none, names_value, value_naming, names_binary, names_not, known_value, own_value}
use Rattle.names.proofs.+index_occurs_occurs.Goals as goal

pub index_occurs-returns-in-Some : goal.index_occurs-returns-in-Some
index_occurs-returns-in-Some t c =
    λ h s g.
    let e = sym c.index.ensures ∙ c.in-Some.is in
    rw (index_some c.args.nodes.now h s c.args.l e) (c.occurs.ensures h s (index_stands c.args.nodes.now h s c.args.l g e))

pub index_occurs-returns-in-None : goal.index_occurs-returns-in-None
unfolding member
index_occurs-returns-in-None t c = λ h s g. rw (index_none c.args.nodes.now h s c.args.l (sym c.index.ensures ∙ c.in-None.is))

pub occurs-index_occurs-requires : goal.occurs-index_occurs-requires
occurs-index_occurs-requires t c = let d = decoded c.expression_at.ensures c.in-Ok-Value.is c.in-Ok-Value.field-0-is in (omega (arith, c.decreases, own_value c.requires d), known_value c.requires d)

pub occurs-occurs-requires : goal.occurs-occurs-requires
occurs-occurs-requires t c = let d = decoded c.expression_at.ensures c.in-Ok-Binary.is c.in-Ok-Binary.field-0-is in (omega (arith, c.decreases, behind c.requires d (λ h s r. r.0)), known_child c.requires d (λ h s r. r.0))

pub occurs-occurs-requires-else-occurs : goal.occurs-occurs-requires-else-occurs
occurs-occurs-requires-else-occurs t c = let d = decoded c.expression_at.ensures c.in-Ok-Binary.is c.in-Ok-Binary.field-0-is in (omega (arith, c.decreases, behind c.requires d (λ h s r. r.1)), known_child c.requires d (λ h s r. r.1))

pub occurs-occurs-requires-in-Ok-Not : goal.occurs-occurs-requires-in-Ok-Not
occurs-occurs-requires-in-Ok-Not t c = let d = decoded c.expression_at.ensures c.in-Ok-Not.is c.in-Ok-Not.field-0-is in (omega (arith, c.decreases, behind c.requires d (λ h s r. r)), known_child c.requires d (λ h s r. r))

pub occurs-returns-then-root-x : goal.occurs-returns-then-root-x
occurs-returns-then-root-x t c =
    λ h s st. rw (names_value st (decoded c.expression_at.ensures c.in-Ok-Value.is c.in-Ok-Value.field-0-is), ← c.root.ensures) (member-here _ _ c.if-root-x.true)

pub occurs-returns-else-root-x : goal.occurs-returns-else-root-x
occurs-returns-else-root-x t c =
    λ h s st.
    let d = decoded c.expression_at.ensures c.in-Ok-Value.is c.in-Ok-Value.field-0-is in
    rw (names_value st d, ← c.root.ensures) (member-later _ _ c.if-root-x.false (c.index_occurs.ensures h s (value_naming st d)))

pub occurs-returns-then-occurs : goal.occurs-returns-then-occurs
occurs-returns-then-occurs t c =
    λ h s st.
    let d = decoded c.expression_at.ensures c.in-Ok-Binary.is c.in-Ok-Binary.field-0-is in
    rw (names_binary st d) (member-left _ _ _ (c.occurs.ensures h s (standing_child st (refers st d).0)) c.if-occurs.true)

pub occurs-returns-else-occurs : goal.occurs-returns-else-occurs
occurs-returns-else-occurs t c =
    λ h s st.
    let d = decoded c.expression_at.ensures c.in-Ok-Binary.is c.in-Ok-Binary.field-0-is in
    rw (names_binary st d)
    (member_right _ _ _ (c.occurs.ensures h s (standing_child st (refers st d).0)) c.if-occurs.false (c.occurs-else-occurs.ensures h s (standing_child st (refers st d).1)))

pub occurs-returns-in-Ok-Not : goal.occurs-returns-in-Ok-Not
occurs-returns-in-Ok-Not t c = λ h s st. let d = decoded c.expression_at.ensures c.in-Ok-Not.is c.in-Ok-Not.field-0-is in rw (names_not st d) (c.occurs-in-Ok-Not.ensures h s (standing_child st (refers st d)))

pub occurs-returns-in_default : goal.occurs-returns-in_default
unfolding member
occurs-returns-in_default t c = λ h s st. rw (names_none st _ c.expression_at.ensures (search rules) (search rules) (search rules))

pub occurs-returns-in_default-2 : goal.occurs-returns-in_default-2
unfolding member
occurs-returns-in_default-2 t c = λ h s st. rw (names_none st _ c.expression_at.ensures (search rules) (search rules) (search rules))
