-- A for: both bounds are worked out, and its turns are left.
use Rattle.expressions.specs.Results.{passed_on}
use Rattle.executors.specs.Leaves.{first_refused, second_refused, bounds_known}
use Rattle.executors.proofs.bounded.Goals as goal

pub returns-in_err-v-clause-bounds : goal.returns-in_err-v-clause-bounds
returns-in_err-v-clause-bounds c =
    λ w p d ρ st mine within_a within_b fine.
    rw (passed_on _ c.from_residual.ensures.1, c.value.ensures.same.1) (first_refused w st _ _ within_a _ (c.in_err-v.ensures.finds w.h w.s w.program) _)

pub returns-in_err-w-clause-bounds : goal.returns-in_err-w-clause-bounds
returns-in_err-w-clause-bounds c =
    λ w p d ρ st mine within_a within_b fine.
    rw (passed_on _ c.from_residual-in_err-w.ensures.1, c.value-2.ensures.same.1, c.value.ensures.same.1) (second_refused w st d _ _ mine _ _ _ within_a within_b _
    _ (c.in_ok-v.ensures.finds w.h w.s w.program) _ (c.in_err-w.ensures.finds w.h w.s w.program))

pub returns-clause-bounds : goal.returns-clause-bounds
returns-clause-bounds c =
    λ w p d ρ st mine within_a within_b fine. (
      fine,
      rw (c.value-2.ensures.same.1, c.value.ensures.same.1) (bounds_known w st d _ _ mine _ _ _ within_a within_b _
          _ (c.in_ok-v.ensures.finds w.h w.s w.program) _ (c.in_ok-w.ensures.finds w.h w.s w.program) _ c.base_of.ensures.0),
    )
