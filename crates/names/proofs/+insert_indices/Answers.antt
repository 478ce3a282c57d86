-- Along the chain, one index after the other.
use Rattle.names.specs.Marks.{adds_none, adds_both}
use Rattle.names.specs.Chains.{head_indices, end_indices}
use Rattle.names.proofs.+insert_indices.Goals as goal

pub returns-in_default : goal.returns-in_default
returns-in_default t c = λ h s k. rw (end_indices c.in_default.ensures k) (adds_none _)

pub returns : goal.returns
returns t c =
    λ h s k.
    let g = c.in-Some.ensures.head h s k in
    rw (head_indices g) (adds_both (c.insert_index.ensures h s g.naming) (c.insert_indices.ensures h s g.rest))
