-- The owner that was found goes on the walk, and its record tells the cells.
use Rattle.std.proofs.Common.{◌≡◌, ◌-◌, sym, ap, ◌∙◌, arith}
use Rattle.std.specs.Option.{unwrap_or}
use Rattle.rules.specs.Form.{search}
use Rattle.tree.specs.Search.{found-or_end}
use Rattle.entry.specs.Cells.{ends_at}
use Rattle.entry.proofs.Searches.{search-ended}
use Rattle.entry.proofs.Rooms.{walked_more, walked_room}
use Rattle.entry.proofs.cells.local_at.Goals as goal

-- The search for the owner ends at what was found, or at the end.
ended : (c : goal.After-cells_of-cells)
    → c.unwrap_or-owner.result ≡ search (ends_at c.args.parts.now.procedures.now c.args.x) c.args.from (c.args.h.procedures - c.args.from)
ended c =
    let count = c.args.h.procedures in
    c.unwrap_or-owner.ensures ∙ ap (λ r. unwrap_or r count) c.owner_from.ensures ∙ found-or_end _ c.args.from count c.requires.upto

pub returns-clause-walked : goal.returns-clause-walked
returns-clause-walked c =
    let high = (search-ended (ends_at c.args.parts.now.procedures.now c.args.x) c.args.from (c.args.h.procedures - c.args.from)).high in
    walked_more _ _ _ _ c.requires _ (ended c) (omega (arith, ended c, high, c.requires.upto))

pub returns-clause-read : goal.returns-clause-read
returns-clause-read c =
    let v = c.variable_at-variable.ensures in
    (v, c.cells_of-cells.ensures ∙ sym (walked_room _ _ _ _ c.requires _ (ended c) _ c.procedure_at.ensures _ v))
