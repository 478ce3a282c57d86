-- The search from 0 on: where it ends, or the end, is the owner of the rules.
use Rattle.std.proofs.Common.{◌≡◌, ℕ, ◌+◌, ◌-◌, leb, arith, ap, ◌∙◌}
use Rattle.std.specs.Option.{unwrap_or}
use Rattle.tree.specs.Search.{found-or_end}
use Rattle.rules.specs.Image.{procedure_of}
use Rattle.rules.specs.Form.{owner}
use Rattle.form.proofs.owner.Goals as goal

pub returns : goal.returns
unfolding owner
returns c =
    let passes = λ (p : ℕ). leb ((procedure_of c.args.procedures.now p).first + (procedure_of c.args.procedures.now p).count) c.args.x in
    let count = c.args.h.procedures in
    let all : count - 0 ≡ count = omega arith in
    let lowest = rw all at c.owner_from.ensures in
    record { owner = ap (λ r. unwrap_or r count) lowest ∙ (rw all at (found-or_end passes 0 count (omega arith))); lowest = lowest }
