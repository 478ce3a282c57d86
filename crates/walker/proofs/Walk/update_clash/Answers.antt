-- The value, then the index.
use Rattle.names.specs.Marks.{member-left, member_right}
use Rattle.records.specs.Cases.{root-place}
use Rattle.walker.proofs.Walk.update_clash.Goals as goal

pub returns-then-occurs : goal.returns-then-occurs
returns-then-occurs c = record {
  is = λ h s g st. rw (root-place h s c.args.target, ← c.root-root.ensures) (member-left _ _ _ (c.occurs.ensures h s st) c.if-occurs.true);
}

pub returns-else-occurs : goal.returns-else-occurs
returns-else-occurs c = record {
  is = λ h s g st.
      rw (root-place h s c.args.target, ← c.root-root.ensures)
      (member_right _ _ _ (c.occurs.ensures h s st) c.if-occurs.false (c.index_occurs.ensures h s g));
}
