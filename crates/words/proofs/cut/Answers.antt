-- The mask is 2 ^ z - 1, and a conjunction with it is the remainder.
use Rattle.std.proofs.Common.{ap, ◌∙◌}
use lib.Bits.{bit_and, and_mask}
use Rattle.words.proofs.Machine.{mask}
use Rattle.words.proofs.cut.Goals as goal

pub returns : goal.returns
returns c = ap (λ m. bit_and c.args.x m) (mask c.args.z 64 c.requires.1) ∙ and_mask c.args.x c.args.z
