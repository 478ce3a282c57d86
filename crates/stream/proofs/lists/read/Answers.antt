-- Each word is the one that stands there.
use Rattle.std.proofs.Common.{◌*◌, arith}
use Rattle.std.proofs.lemmas.List.FromFn.{fill_by_all}
use Rattle.rules.specs.Image.{le64}
use Rattle.stream.proofs.lists.read.Goals as goal

pub returns : goal.returns
returns c = fill_by_all (λ k. le64 c.args.part.now (k * 8)) c.loop-i.into _ 0 c.loop-i.auto.into (λ k h. c.loop-i.invariant k (omega arith))
