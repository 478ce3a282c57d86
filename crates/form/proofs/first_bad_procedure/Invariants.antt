use mathlib.Core.Path.{◌≡◌}
use Rattle.records.specs.Records.{as_header}
use Rattle.tree.specs.Search.{Passed}
use Rattle.rules.specs.Form.{procedure_fits, shared_before}
use Rattle.form.proofs.first_bad_procedure.Given as goal

abbrev pub invariant-loop-p : goal.invariant-loop-p
invariant-loop-p l = Passed (procedure_fits (as_header l.h) l.procedures) 0 l.p × (l.shared ≡ shared_before l.procedures l.p)
