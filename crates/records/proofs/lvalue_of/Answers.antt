-- An arm's key picks the definition's choice; in the last arm each key is shut out.
use borrow.Author.Tests.{ne_eqb}
use Rattle.records.specs.Decode.{lvalue_by}
use Rattle.records.proofs.lvalue_of.Goals as goal

pub returns-in-21 : goal.returns-in-21
unfolding lvalue_by
returns-in-21 c = rw c.in-21.is

pub returns-in-22 : goal.returns-in-22
unfolding lvalue_by
returns-in-22 c = rw c.in-22.is

pub returns-in-23 : goal.returns-in-23
unfolding lvalue_by
returns-in-23 c = rw c.in-23.is

pub returns-in_default : goal.returns-in_default
unfolding lvalue_by
returns-in_default c = simp (ne_eqb _ _ c.in_default.in_default-own.rest.1, ne_eqb _ _ c.in_default.in_default-own.rest.0.1, ne_eqb _ _ c.in_default.in_default-own.rest.0.0.1)
