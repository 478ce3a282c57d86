-- Each arm has the operator's number, at which `binary_of` computes, and the last arm a number for which it has the first.
use Rattle.rules.specs.Words.{divides}
use Rattle.words.proofs.binary.Goals as goal

pub quotient-requires : goal.quotient-requires
unfolding divides
quotient-requires c = c.requires (rw c.in-4.is)

pub remainder-requires : goal.remainder-requires
unfolding divides
remainder-requires c = c.requires (rw c.in-5.is)
