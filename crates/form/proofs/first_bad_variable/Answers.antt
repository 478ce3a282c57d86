-- The library's search, by what its test says of one record.
use Rattle.std.proofs.Common.{rules, arith}
use Rattle.records.specs.Records.{as_header}
use Rattle.tree.proofs.Ranges.{found-range}
use Rattle.form.specs.Tests.{variable_fits_at}
use Rattle.form.proofs.first_bad_variable.Goals as goal

pub returns : goal.returns
returns c =
    let passes = variable_fits_at (as_header c.args.h) c.args.procedures.now c.args.variables.now in
    found-range passes c.args.h.variables _ _ _ _ (omega arith) c.find.ensures.ran (λ n q h. search rules) (λ n q h. search rules)
