-- An arm's key picks the definition's choice; in the last arm each key is shut out.
use borrow.Author.Tests.{ne_eqb}
use Rattle.records.specs.Decode.{decoded_by}
use Rattle.records.proofs.taken_apart.Goals as goal

pub returns-in-1 : goal.returns-in-1
unfolding decoded_by
returns-in-1 c = rw c.in-1.is

pub returns-in-2 : goal.returns-in-2
unfolding decoded_by
returns-in-2 c = rw c.in-2.is c.update_of.ensures

pub returns-in-3 : goal.returns-in-3
unfolding decoded_by
returns-in-3 c = rw c.in-3.is c.swap_of.ensures

pub returns-in-4 : goal.returns-in-4
unfolding decoded_by
returns-in-4 c = rw c.in-4.is c.conditional_swap_of.ensures

pub returns-in-5 : goal.returns-in-5
unfolding decoded_by
returns-in-5 c = rw c.in-5.is

pub returns-in-6 : goal.returns-in-6
unfolding decoded_by
returns-in-6 c = rw c.in-6.is

pub returns-in-7 : goal.returns-in-7
unfolding decoded_by
returns-in-7 c = rw c.in-7.is

pub returns-in-8 : goal.returns-in-8
unfolding decoded_by
returns-in-8 c = rw c.in-8.is

pub returns-in-9 : goal.returns-in-9
unfolding decoded_by
returns-in-9 c = rw c.in-9.is

pub returns-in_default : goal.returns-in_default
unfolding decoded_by
returns-in_default c =
    simp (ne_eqb _ _ c.in_default.in_default-own.rest.1, ne_eqb _ _ c.in_default.in_default-own.rest.0.1, ne_eqb _ _ c.in_default.in_default-own.rest.0.0.1, ne_eqb _ _ c.in_default.in_default-own.rest.0.0.0.1, ne_eqb _ _ c.in_default.in_default-own.rest.0.0.0.0.1, ne_eqb _ _ c.in_default.in_default-own.rest.0.0.0.0.0.1, ne_eqb _ _ c.in_default.in_default-own.rest.0.0.0.0.0.0.1, ne_eqb _ _ c.in_default.in_default-own.rest.0.0.0.0.0.0.0.1, ne_eqb _ _ c.in_default.in_default-own.rest.0.0.0.0.0.0.0.0.1) (c.expression_taken_apart.ensures)
