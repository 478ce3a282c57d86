-- One law for each case of the node; what its fields refer to is what the called functions ask.
use native.Mathlib.Omega.{arith}
use borrow.Author.Rules.{rules}
use Rattle.rules.specs.Image.{is_expression}
use Rattle.expressions.specs.Relations.{direction_of}
use Rattle.expressions.specs.Results.{passed_on}
use Rattle.executors.specs.Nodes.{child_statement, child_chain, child_readable, chain_behind, target_indexed, not_statement}
use Rattle.executors.specs.Leaves.{empty-done, update_done, swap_done, conditional_done, call_left, uncall_left, block-left, if_left, for_within, for_forward, for_inverse}
use Rattle.executors.proofs.performed.Goals as goal

pub update-requires : goal.update-requires
update-requires c = let r = rw c.in-Update.is at c.requires.refers in (target_indexed c.requires.code _ r.0, child_readable c.requires.code is_expression r.1)

pub swap-requires : goal.swap-requires
swap-requires c = let r = rw c.in-Swap.is at c.requires.refers in (target_indexed c.requires.code _ r.0, target_indexed c.requires.code _ r.1)

pub conditional_swap-requires : goal.conditional_swap-requires
conditional_swap-requires c =
    let r = rw c.in-ConditionalSwap.is at c.requires.refers in
    (child_readable c.requires.code is_expression r.0, target_indexed c.requires.code _ r.1.0, target_indexed c.requires.code _ r.1.1)

pub returns-in-Empty-clause-performs : goal.returns-in-Empty-clause-performs
returns-in-Empty-clause-performs c = λ w p ρ st is m fine. empty-done w st _ _ fine (rw c.in-Empty.is at m)

pub returns-in_err-update-in-Update-clause-performs : goal.returns-in_err-update-in-Update-clause-performs
returns-in_err-update-in-Update-clause-performs c =
    λ w p ρ st is m fine.
    rw (passed_on _ c.from_residual.ensures.1) (update_done w st _ _ fine c.in-Update.target c.in-Update.value c.in-Update.operator (rw c.in-Update.is at m)
    (c.in_err-update-in-Update.ensures.does w.h w.s w.program))

pub returns-in_ok-update-in-Update-clause-performs : goal.returns-in_ok-update-in-Update-clause-performs
returns-in_ok-update-in-Update-clause-performs c =
    λ w p ρ st is m fine.
    update_done w st _ _ fine c.in-Update.target c.in-Update.value c.in-Update.operator (rw c.in-Update.is at m)
    (c.in_ok-update-in-Update.ensures.does w.h w.s w.program)

pub returns-in_err-swap-in-Swap-clause-performs : goal.returns-in_err-swap-in-Swap-clause-performs
returns-in_err-swap-in-Swap-clause-performs c =
    λ w p ρ st is m fine.
    rw (passed_on _ c.from_residual-in_err-swap-in-Swap.ensures.1) (swap_done w st _ _ fine c.in-Swap.left c.in-Swap.right (rw c.in-Swap.is at m)
    (c.in_err-swap-in-Swap.ensures.does w.h w.s w.program))

pub returns-in_ok-swap-in-Swap-clause-performs : goal.returns-in_ok-swap-in-Swap-clause-performs
returns-in_ok-swap-in-Swap-clause-performs c =
    λ w p ρ st is m fine.
    swap_done w st _ _ fine c.in-Swap.left c.in-Swap.right (rw c.in-Swap.is at m)
    (c.in_ok-swap-in-Swap.ensures.does w.h w.s w.program)

pub returns-in_err-conditional_swap-in-ConditionalSwap-clause-performs : goal.returns-in_err-conditional_swap-in-ConditionalSwap-clause-performs
returns-in_err-conditional_swap-in-ConditionalSwap-clause-performs c =
    λ w p ρ st is m fine.
    rw (passed_on _ c.from_residual-in_err-conditional_swap-in-ConditionalSwap.ensures.1)
    (conditional_done w st _ _ fine c.in-ConditionalSwap.left c.in-ConditionalSwap.right c.in-ConditionalSwap.condition (rw c.in-ConditionalSwap.is at m)
    (c.in_err-conditional_swap-in-ConditionalSwap.ensures.does w.h w.s w.program))

pub returns-in_ok-conditional_swap-in-ConditionalSwap-clause-performs : goal.returns-in_ok-conditional_swap-in-ConditionalSwap-clause-performs
returns-in_ok-conditional_swap-in-ConditionalSwap-clause-performs c =
    λ w p ρ st is m fine.
    conditional_done w st _ _ fine c.in-ConditionalSwap.left c.in-ConditionalSwap.right c.in-ConditionalSwap.condition (rw c.in-ConditionalSwap.is at m)
    (c.in_ok-conditional_swap-in-ConditionalSwap.ensures.does w.h w.s w.program)

pub returns-in-If-clause-sound : goal.returns-in-If-clause-sound
returns-in-If-clause-sound c =
    let r = rw c.in-If.is at c.requires.refers in
    c.decided.ensures.by_index _ (child_statement c.requires.code r.1.0, r.1.0.behind) (child_statement c.requires.code r.1.1, r.1.1.behind)

pub returns-in-If-clause-performs : goal.returns-in-If-clause-performs
returns-in-If-clause-performs c =
    λ w p ρ st is m fine.
    let i = if_left w st (direction_of c.args.inverse) c.args.n fine c.in-If.condition c.in-If.yes c.in-If.no (rw c.in-If.is at m) in
    rw i.1 (c.decided.ensures.decides w p _ _ ρ st i.0.0 i.0.1 i.0.2)

pub returns-then-inverse-clause-sound : goal.returns-then-inverse-clause-sound
returns-then-inverse-clause-sound c =
    let r = rw c.in-For.is at c.requires.refers in c.bounded.ensures.sound (child_statement c.requires.code r.1.1.1, r.1.1.1.behind)

pub returns-then-inverse-clause-performs : goal.returns-then-inverse-clause-performs
returns-then-inverse-clause-performs c =
    λ w p ρ st is m fine.
    let means = rw c.in-For.is at m in
    let i = for_within w st c.args.inverse _ fine _ _ _ _ means in
    rw (for_inverse w st c.args.inverse _ fine _ _ _ _ means c.if-inverse.true) (c.bounded.ensures.bounds w p _ ρ st i.0 i.2 i.1 i.3)

pub returns-else-inverse-clause-sound : goal.returns-else-inverse-clause-sound
returns-else-inverse-clause-sound c =
    let r = rw c.in-For.is at c.requires.refers in c.bounded-in-For.ensures.sound (child_statement c.requires.code r.1.1.1, r.1.1.1.behind)

pub returns-else-inverse-clause-performs : goal.returns-else-inverse-clause-performs
returns-else-inverse-clause-performs c =
    λ w p ρ st is m fine.
    let means = rw c.in-For.is at m in
    let i = for_within w st c.args.inverse _ fine _ _ _ _ means in
    rw (for_forward w st c.args.inverse _ fine _ _ _ _ means c.if-inverse.false) (c.bounded-in-For.ensures.bounds w p _ ρ st i.0 i.1 i.2 i.3)

pub returns-in-Call-clause-performs : goal.returns-in-Call-clause-performs
returns-in-Call-clause-performs c = λ w p ρ st is m fine. call_left w st _ _ fine _ _ (rw c.in-Call.is at m)

pub returns-in-Uncall-clause-performs : goal.returns-in-Uncall-clause-performs
returns-in-Uncall-clause-performs c = λ w p ρ st is m fine. uncall_left w st _ _ fine _ _ (rw c.in-Uncall.is at m)

pub returns-in-Block-clause-sound : goal.returns-in-Block-clause-sound
returns-in-Block-clause-sound c =
    let r = rw c.in-Block.is at c.requires.refers in
    (child_chain c.requires.code r.1, (chain_behind c.requires.code c.requires.inside r.1, omega (arith, r.0, c.requires.code.narrow)))

pub returns-in-Block-clause-performs : goal.returns-in-Block-clause-performs
returns-in-Block-clause-performs c = λ w p ρ st is m fine. block-left w st _ _ fine _ _ _ (rw c.in-Block.is at m)

pub returns-in_default-clause-performs : goal.returns-in_default-clause-performs
returns-in_default-clause-performs c = λ w p ρ st is m fine. absurd (not_statement _ is (search rules))
