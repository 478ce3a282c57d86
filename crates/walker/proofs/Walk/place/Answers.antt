-- A name by itself, or an element.
use mathlib.Core.Path.{sym, ap, ◌∙◌}
use Rattle.rules.specs.Image.{is_array, is_constant}
use Rattle.names.specs.Chains.{root-small}
use Rattle.walker.specs.Judge.{refuses_with, read, place_element, place_whole}
use Rattle.walker.proofs.Walk.place.Goals as goal

pub returns-in_err-element : goal.returns-in_err-element
returns-in_err-element c =
    λ h s g Γ sc.
    rw (place_element h s c.args.arrays Γ c.args.l (sym c.index.ensures ∙ c.in-Some.is))
    (refuses_with _ _ c.from_residual.ensures.1 (c.in_err-element.ensures.is h s g Γ sc).is)

pub returns-in-Some : goal.returns-in-Some
returns-in-Some c = λ h s g Γ sc. rw (place_element h s c.args.arrays Γ c.args.l (sym c.index.ensures ∙ c.in-Some.is)) (c.in_ok-element.ensures.is h s g Γ sc).is

pub returns : goal.returns
returns c =
    λ h s g Γ sc.
    let e = read s sc.own _ c.variable-v.ensures in
    rw (place_whole h s c.args.arrays Γ c.args.l (sym c.index.ensures ∙ c.in_default.is), ← c.node.ensures, ← c.root-x.ensures, ← c.is_array.ensures ∙ ap is_array e, ← c.is_constant.ensures ∙ ap is_constant e)
    (c.named.ensures Γ sc.marks (rw c.root-x.ensures (root-small g)))
