-- The cell of each case.
use Rattle.expressions.specs.Results.{passed_on, then_found, then_fault}
use Rattle.expressions.proofs.Targets.{entry_of, address-whole, address-entry}
use Rattle.expressions.proofs.memory.Reading.address.Goals as goal

pub value-requires : goal.value-requires
value-requires c = (entry_of _ _ _ c.in-Element.is).index _ c.requires

pub returns-in_err-at-in-Element-clause-finds : goal.returns-in_err-at-in-Element-clause-finds
returns-in_err-at-in-Element-clause-finds c =
    λ h s p.
    rw (passed_on _ c.from_residual.ensures.1) (address-entry _ _ h s _ (entry_of _ _ _ c.in-Element.is)
    (then_fault _ _ _ (c.in_err-at-in-Element.ensures.finds h s p)))

pub returns-in-Variable-clause-finds : goal.returns-in-Variable-clause-finds
returns-in-Variable-clause-finds c = λ h s p. rw c.base_of.ensures.0 (address-whole _ _ h s _ _ _ c.in-Variable.is)

pub returns-in_ok-at-in-Element-clause-finds : goal.returns-in_ok-at-in-Element-clause-finds
returns-in_ok-at-in-Element-clause-finds c =
    λ h s p.
    address-entry _ _ h s _ (entry_of _ _ _ c.in-Element.is)
    (then_found _ _ _ (c.in_ok-at-in-Element.ensures.finds h s p) (c.indexed.ensures.finds _ _))
