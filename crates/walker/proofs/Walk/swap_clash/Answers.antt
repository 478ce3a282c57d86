-- The left index, then the right one.
use Rattle.walker.specs.Simple.{swap_clash_first, swap_clash_second}
use Rattle.walker.proofs.Walk.swap_clash.Goals as goal

pub returns-then-either_in_index : goal.returns-then-either_in_index
returns-then-either_in_index c = record {
  is = λ h s g k. swap_clash_first h s c.args.left c.args.right c.root-x.ensures c.root-y.ensures (c.either_in_index.ensures h s g) c.if-either_in_index.true;
}

pub returns-else-either_in_index : goal.returns-else-either_in_index
returns-else-either_in_index c = record {
  is = λ h s g k.
      swap_clash_second h s c.args.left c.args.right c.root-x.ensures c.root-y.ensures (c.either_in_index.ensures h s g) c.if-either_in_index.false (c.either_in_index-else-either_in_index.ensures h s k);
}
