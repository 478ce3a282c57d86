-- The two types, and whether each is an array.
use mathlib.Core.Path.{ap, ap₂, ◌∙◌}
use Rattle.rules.specs.Image.{is_array}
use Rattle.rules.specs.Walk.{same}
use Rattle.records.specs.Cases.{root-place}
use Rattle.walker.specs.Judge.{read, same_bits}
use Rattle.walker.proofs.Walk.argument_fits.Goals as goal

pub returns-then-same_type : goal.returns-then-same_type
returns-then-same_type c = record {
  is = λ h s own.
      rw (root-place h s c.args.l, ← c.root.ensures, ← c.same_type.ensures.is s own, c.if-same_type.true)
      (same_bits c.passes_array.result c.is_array.result ∙ ap₂ same (c.passes_array.ensures.is h s own) (c.is_array.ensures ∙ ap is_array (read s own _ c.variable.ensures)));
}

pub returns-else-same_type : goal.returns-else-same_type
returns-else-same_type c = record {
  is = λ h s own. c.if-same_type.false ∙ rw (root-place h s c.args.l, ← c.root.ensures, ← c.same_type.ensures.is s own, c.if-same_type.false);
}
