-- From 64 on every word is below 2^z; before, 1 << z is 2^z.
use mathlib.Core.Path.{sym, ◌∙◌}
use native.Mathlib.Nat.{lt_of_lt_of_le}
use borrow.Author.Tests.{le-leb, lt-ltb}
use lib.Pow.{pow_mono}
use Rattle.entry.proofs.refusals.cell_fits.Goals as goal

pub returns-then-z-ge64 : goal.returns-then-z-ge64
returns-then-z-ge64 c = le-leb _ _ c.if-z-ge64.true ∙ sym (lt-ltb _ _ (lt_of_lt_of_le c.ranges.cell.fits (pow_mono c.if-z-ge64.true)))
