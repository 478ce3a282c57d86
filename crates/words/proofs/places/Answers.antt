-- A value below z is its own remainder twice; for any other the code takes both remainders.
use Rattle.std.proofs.Common.{sym}
use Rattle.words.proofs.Machine.{places_below}
use Rattle.words.proofs.places.Goals as goal

pub returns-then-v-z : goal.returns-then-v-z
returns-then-v-z c = (sym (places_below c.args.z c.args.v c.if-v-z.true), c.if-v-z.true)
