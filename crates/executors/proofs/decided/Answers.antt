-- An if: its condition is worked out, and the branch that it chooses is left.
use Rattle.expressions.specs.Results.{passed_on}
use Rattle.executors.specs.Leaves.{first_refused, if_not, if_so}
use Rattle.executors.proofs.decided.Goals as goal

pub returns-in_err-v-clause-decides : goal.returns-in_err-v-clause-decides
returns-in_err-v-clause-decides c =
    λ w p n d ρ st within a b.
    rw (passed_on _ c.from_residual.ensures.1, c.value.ensures.same.1) (first_refused w st _ _ within _ (c.in_err-v.ensures.finds w.h w.s w.program) _)

pub returns-then-v-eq0-clause-decides : goal.returns-then-v-eq0-clause-decides
returns-then-v-eq0-clause-decides c =
    λ w p n d ρ st within a b. (b, rw c.value.ensures.same.1 (if_not w st _ _ within _ (c.in_ok-v.ensures.finds w.h w.s w.program) d _ _ c.if-v-eq0.true))

pub returns-clause-decides : goal.returns-clause-decides
returns-clause-decides c =
    λ w p n d ρ st within a b. (a, rw c.value.ensures.same.1 (if_so w st _ _ within _ (c.in_ok-v.ensures.finds w.h w.s w.program) d _ _ c.if-v-eq0.false))
