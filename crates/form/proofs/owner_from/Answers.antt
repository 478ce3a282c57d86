-- The library's search, by what its test says of one record.
use Rattle.std.proofs.Common.{rules, ℕ, ◌+◌, ◌-◌, leb, arith}
use Rattle.tree.proofs.Ranges.{found-range}
use Rattle.rules.specs.Image.{procedure_of}
use Rattle.form.proofs.owner_from.Goals as goal

pub returns : goal.returns
returns c =
    let passes = λ (p : ℕ). leb ((procedure_of c.args.procedures.now p).first + (procedure_of c.args.procedures.now p).count) c.args.x in
    found-range passes (c.args.count - c.args.from) _ _ _ _ (omega arith) c.find.ensures.ran (λ n q h. search rules) (λ n q h. search rules)
