-- A chain ends at the number that stands for no node; what else it begins with is an argument.
use mathlib.Core.Path.{sym, ◌∙◌}
use Rattle.names.specs.Chains.{ends, begins, no_other, chain_standing}
use Rattle.names.proofs.first_argument.Goals as goal

pub returns-then-n-eq-MISSING : goal.returns-then-n-eq-MISSING
returns-then-n-eq-MISSING c = ends c.if-n-eq-MISSING.true

pub returns-in_err-l : goal.returns-in_err-l
returns-in_err-l c = absurd (no_other (chain_standing c.requires.chain c.if-n-eq-MISSING.false) (sym c.lvalue_at.ensures ∙ c.in_err-l.was))

pub returns : goal.returns
returns c = begins c.requires c.if-n-eq-MISSING.false (sym c.lvalue_at.ensures ∙ c.in_ok-l.was) c.next_at.ensures
