-- Children in field order, then own rules, then next; what a node refers to has a larger number.
use mathlib.Core.Path.{refl, sym, ◌∙◌}
use native.Mathlib.Omega.{arith}
use Rattle.rules.specs.Tree.{declared}
use Rattle.rules.specs.Walk.{stmt_refusal}
use Rattle.records.specs.Decode.{decoded}
use Rattle.names.specs.Class.{no_statement}
use Rattle.names.specs.Sound.{means, refers, standing_child, never_refused, statement-classed, name_small, known_child, behind}
use Rattle.names.specs.Chains.{chain_standing, no_statements, first_statement_lem, later_statements}
use Rattle.names.specs.Statements.{begun, begun-behind}
use Rattle.walker.specs.Judge.{stops-on, then-on, row}
use Rattle.walker.specs.Simple.{call_at, call_means}
use Rattle.walker.specs.Nested.{known_of, walkable_next, walkable_ahead, walkable_child, walkable_begun, call_ready, range_small, later, inside, walked_stops, walked_plain, if_goes, for_goes, block_goes, list_none, list_goes}
use Rattle.walker.proofs.Walk.+block_for_statement_if_statement_list_statement.Goals as goal

pub block-block_rules-requires : goal.block-block_rules-requires
block-block_rules-requires t c = range_small c.requires.0 c.requires.1 _ _ (λ h s r. r.0)

pub block-returns-in_err-block_rules : goal.block-returns-in_err-block_rules
unfolding stmt_refusal
block-returns-in_err-block_rules t c =
    λ h s st.
    rw (means st c.requires.1)
    (walked_stops _ _ c.from_residual.ensures.1 (λ Γ D g. row _ _ _ (stops-on _ _ (c.in_err-block_rules.ensures.is s D g.names.own g.own g.marks))))

pub block-insert_range-requires : goal.block-insert_range-requires
block-insert_range-requires t c = range_small c.requires.0 c.requires.1 _ _ (λ h s r. r.0)

pub block-insert_range-requires-2 : goal.block-insert_range-requires-2
block-insert_range-requires-2 t c = range_small c.requires.0 c.requires.1 _ _ (λ h s r. r.0)

pub block-list-requires : goal.block-list-requires
block-list-requires t c = (omega (arith, c.decreases, begun-behind (known_of c.requires.0) c.requires.1 (λ h s r. r.1)), walkable_begun c.requires.0 c.requires.1 (λ h s r. r.1))

pub block-returns : goal.block-returns
block-returns t c =
    λ h s st.
    let d = c.requires.1 in
    rw (means st d)
    (block_goes (λ Γ D g. c.in_ok-block_rules.ensures.is s D g.names.own g.own g.marks) c.insert_range.ensures c.insert_range-2.ensures (c.list.ensures h s (begun st (refers st d).1)))

pub for_statement-expression-requires : goal.for_statement-expression-requires
for_statement-expression-requires t c = known_child (known_of c.requires.0) c.requires.1 (λ h s r. r.1.0)

pub for_statement-returns-in_err-a : goal.for_statement-returns-in_err-a
unfolding stmt_refusal
for_statement-returns-in_err-a t c =
    λ h s st.
    let d = c.requires.1 in
    rw (means st d) (walked_stops _ _ c.from_residual.ensures.1 (λ Γ D g. stops-on _ _ (c.in_err-a.ensures h s (standing_child st (refers st d).1.0) Γ g.names).is))

pub for_statement-expression-requires-2 : goal.for_statement-expression-requires-2
for_statement-expression-requires-2 t c = known_child (known_of c.requires.0) c.requires.1 (λ h s r. r.1.1.0)

pub for_statement-returns-in_err-b : goal.for_statement-returns-in_err-b
unfolding stmt_refusal
for_statement-returns-in_err-b t c =
    λ h s st.
    let d = c.requires.1 in
    rw (means st d)
    (walked_stops _ _ c.from_residual-in_err-b.ensures.1
    (λ Γ D g.
    then-on (c.in_ok-a.ensures h s (standing_child st (refers st d).1.0) Γ g.names).is (stops-on _ _ (c.in_err-b.ensures h s (standing_child st (refers st d).1.1.0) Γ g.names).is)))

pub for_statement-returns-in_err-counter_rules : goal.for_statement-returns-in_err-counter_rules
unfolding stmt_refusal
for_statement-returns-in_err-counter_rules t c =
    λ h s st.
    let d = c.requires.1 in
    rw (means st d)
    (walked_stops _ _ c.from_residual-in_err-counter_rules.ensures.1
    (λ Γ D g.
    then-on (c.in_ok-a.ensures h s (standing_child st (refers st d).1.0) Γ g.names).is
    (then-on (c.in_ok-b.ensures h s (standing_child st (refers st d).1.1.0) Γ g.names).is
    (row _ _ _ (stops-on _ _ (c.in_err-counter_rules.ensures.is s D g.names.own g.own g.marks (name_small st (refers st d).0)))))))

pub for_statement-statement-requires : goal.for_statement-statement-requires
for_statement-statement-requires t c = (omega (arith, c.decreases, behind (known_of c.requires.0) c.requires.1 (λ h s r. r.1.1.1)), walkable_child c.requires.0 c.requires.1 (λ h s r. r.1.1.1))

pub for_statement-returns-in_err-statement : goal.for_statement-returns-in_err-statement
unfolding stmt_refusal
for_statement-returns-in_err-statement t c =
    λ h s st.
    let d = c.requires.1 in
    let l = name_small st (refers st d).0 in
    rw (means st d)
    (walked_stops _ _ c.from_residual-in_err-statement.ensures.1
    (λ Γ D g.
    then-on (c.in_ok-a.ensures h s (standing_child st (refers st d).1.0) Γ g.names).is
    (then-on (c.in_ok-b.ensures h s (standing_child st (refers st d).1.1.0) Γ g.names).is
    (row _ _ _
    (then-on (c.in_ok-counter_rules.ensures.is s D g.names.own g.own g.marks l)
    (stops-on _ _ ((c.in_err-statement.ensures h s (standing_child st (refers st d).1.1.1)).is _ _ (inside g (c.insert.ensures l) (c.insert-2.ensures l)))))))))

pub for_statement-for_rules-requires : goal.for_statement-for_rules-requires
for_statement-for_rules-requires t c = let k = known_of c.requires.0 in let d = c.requires.1 in (known_child k d (λ h s r. r.1.0), known_child k d (λ h s r. r.1.1.0), known_child k d (λ h s r. r.1.1.1))

pub for_statement-returns : goal.for_statement-returns
for_statement-returns t c =
    λ h s st.
    let d = c.requires.1 in
    let l = name_small st (refers st d).0 in
    let a = standing_child st (refers st d).1.0 in
    let b = standing_child st (refers st d).1.1.0 in
    let u = standing_child st (refers st d).1.1.1 in
    rw (means st d)
    (for_goes (c.in_ok-a.ensures h s a) (c.in_ok-b.ensures h s b) (λ Γ D g. c.in_ok-counter_rules.ensures.is s D g.names.own g.own g.marks l) (c.insert.ensures l) (c.insert-2.ensures l)
    (c.in_ok-statement.ensures h s u) (c.for_rules.ensures.is h s a b u))

pub if_statement-expression-requires : goal.if_statement-expression-requires
if_statement-expression-requires t c = known_child (known_of c.requires.0) c.requires.1 (λ h s r. r.0)

pub if_statement-returns-in_err-secret : goal.if_statement-returns-in_err-secret
unfolding stmt_refusal
if_statement-returns-in_err-secret t c =
    λ h s st.
    let d = c.requires.1 in
    rw (means st d) (walked_stops _ _ c.from_residual.ensures.1 (λ Γ D g. stops-on _ _ (c.in_err-secret.ensures h s (standing_child st (refers st d).0) Γ g.names).is))

pub if_statement-statement-requires : goal.if_statement-statement-requires
if_statement-statement-requires t c = (omega (arith, c.decreases, behind (known_of c.requires.0) c.requires.1 (λ h s r. r.1.0)), walkable_child c.requires.0 c.requires.1 (λ h s r. r.1.0))

pub if_statement-returns-in_err-statement : goal.if_statement-returns-in_err-statement
unfolding stmt_refusal
if_statement-returns-in_err-statement t c =
    λ h s st.
    let d = c.requires.1 in
    rw (means st d)
    (walked_stops _ _ c.from_residual-in_err-statement.ensures.1
    (λ Γ D g.
    then-on (c.in_ok-secret.ensures h s (standing_child st (refers st d).0) Γ g.names).is (stops-on _ _ ((c.in_err-statement.ensures h s (standing_child st (refers st d).1.0)).is Γ D g))))

pub if_statement-statement-requires-2 : goal.if_statement-statement-requires-2
if_statement-statement-requires-2 t c = (omega (arith, c.decreases, behind (known_of c.requires.0) c.requires.1 (λ h s r. r.1.1)), walkable_child c.requires.0 c.requires.1 (λ h s r. r.1.1))

pub if_statement-returns-in_err-statement-2 : goal.if_statement-returns-in_err-statement-2
unfolding stmt_refusal
if_statement-returns-in_err-statement-2 t c =
    λ h s st.
    let d = c.requires.1 in
    let y = c.in_ok-statement.ensures h s (standing_child st (refers st d).1.0) in
    rw (means st d)
    (walked_stops _ _ c.from_residual-in_err-statement-2.ensures.1
    (λ Γ D g.
    then-on (c.in_ok-secret.ensures h s (standing_child st (refers st d).0) Γ g.names).is
    (then-on (y.is Γ D g) (stops-on _ _ ((c.in_err-statement-2.ensures h s (standing_child st (refers st d).1.1)).is _ _ (later g y))))))

pub if_statement-if_rules-requires : goal.if_statement-if_rules-requires
if_statement-if_rules-requires t c = let k = known_of c.requires.0 in let d = c.requires.1 in (known_child k d (λ h s r. r.0), known_child k d (λ h s r. r.1.0), known_child k d (λ h s r. r.1.1))

pub if_statement-returns : goal.if_statement-returns
if_statement-returns t c =
    λ h s st.
    let d = c.requires.1 in
    let e = standing_child st (refers st d).0 in
    let y = standing_child st (refers st d).1.0 in
    let z = standing_child st (refers st d).1.1 in
    rw (means st d) (if_goes (c.in_ok-secret.ensures h s e) (c.in_ok-statement.ensures h s y) (c.in_ok-statement-2.ensures h s z) (c.if_rules.ensures.is h s e y z))

pub list-returns-then-n-eq-MISSING : goal.list-returns-then-n-eq-MISSING
list-returns-then-n-eq-MISSING t c = λ h s k. rw (no_statements k c.if-n-eq-MISSING.true) list_none

pub list-returns-in_err-statement : goal.list-returns-in_err-statement
unfolding stmt_refusal
list-returns-in_err-statement t c =
    λ h s k.
    let st = chain_standing k c.if-n-eq-MISSING.false in
    rw (first_statement_lem st refl) (walked_stops _ _ c.from_residual.ensures.1 (λ Γ D g. stops-on _ _ ((c.in_err-statement.ensures h s st).is Γ D g)))

pub list-list-requires : goal.list-list-requires
list-list-requires t c = (omega (arith, c.decreases, walkable_ahead c.requires c.if-n-eq-MISSING.false c.next_at.ensures), walkable_next c.requires c.if-n-eq-MISSING.false c.next_at.ensures)

pub list-returns : goal.list-returns
list-returns t c =
    λ h s k.
    let st = chain_standing k c.if-n-eq-MISSING.false in
    rw (first_statement_lem st c.next_at.ensures) (list_goes (c.in_ok-statement.ensures h s st) (c.list.ensures h s (later_statements st c.next_at.ensures)))

pub statement-returns-in_err-node_at : goal.statement-returns-in_err-node_at
statement-returns-in_err-node_at t c = λ h s st. absurd (never_refused st (sym c.node_at.ensures ∙ c.in_err-node_at.was))

pub statement-call-requires : goal.statement-call-requires
statement-call-requires t c = call_ready c.requires (sym c.node_at.ensures ∙ c.in_ok-node_at.was) c.in-Call.is

pub statement-returns-in-Empty : goal.statement-returns-in-Empty
unfolding declared stmt_refusal
statement-returns-in-Empty t c = λ h s st. let d = decoded c.node_at.ensures c.in_ok-node_at.was c.in-Empty.is in rw (means st d) (walked_plain refl (λ Γ D g. refl))

pub statement-returns-in-Update : goal.statement-returns-in-Update
unfolding declared
statement-returns-in-Update t c = λ h s st. walked_plain (rw (means st (decoded c.node_at.ensures c.in_ok-node_at.was c.in-Update.is))) (λ Γ D g. (c.update.ensures h s st).is _ Γ D g.names)

pub statement-returns-in-Swap : goal.statement-returns-in-Swap
unfolding declared
statement-returns-in-Swap t c = λ h s st. walked_plain (rw (means st (decoded c.node_at.ensures c.in_ok-node_at.was c.in-Swap.is))) (λ Γ D g. (c.swap.ensures h s st).is _ Γ D g.names)

pub statement-returns-in-ConditionalSwap : goal.statement-returns-in-ConditionalSwap
unfolding declared
statement-returns-in-ConditionalSwap t c =
    λ h s st. walked_plain (rw (means st (decoded c.node_at.ensures c.in_ok-node_at.was c.in-ConditionalSwap.is))) (λ Γ D g. (c.conditional_swap.ensures h s st).is _ Γ D g.names)

pub statement-returns-in-Call : goal.statement-returns-in-Call
unfolding declared
statement-returns-in-Call t c =
    λ h s st.
    let m = call_means (call_at (known_of c.requires) (sym c.node_at.ensures ∙ c.in_ok-node_at.was) c.in-Call.is) st in
    walked_plain (rw m.1) (λ Γ D g. (c.call.ensures h s st).is Γ D g.names g.own)

pub statement-returns-in_default : goal.statement-returns-in_default
statement-returns-in_default t c =
    λ h s st.
    let d = sym c.node_at.ensures ∙ c.in_ok-node_at.was in
    let w = c.in_default in
    absurd (no_statement _ (statement-classed d st) w.not-Empty w.not-Update w.not-Swap w.not-ConditionalSwap w.not-If w.not-For w.not-Call w.not-Uncall w.not-Block)
