-- An element has an index.
use mathlib.Core.Path.{sym, ap, ◌∙◌}
use Rattle.rules.specs.Image.{is_array}
use Rattle.walker.specs.Judge.{read, passes_whole, passes_element}
use Rattle.walker.proofs.Walk.passes_array.Goals as goal

pub returns-in-Some : goal.returns-in-Some
returns-in-Some c = record { is = λ h s own. rw (passes_element h s c.args.l (sym c.index.ensures ∙ c.in-Some.is)) }

pub returns-in-None : goal.returns-in-None
returns-in-None c = record {
  is = λ h s own.
      rw (passes_whole h s c.args.l (sym c.index.ensures ∙ c.in-None.is), ← c.root.ensures) (c.is_array.ensures ∙ ap is_array (read s own _ c.variable.ensures));
}
