-- Along the chain, with the parameters.
use mathlib.Core.Path.{◌∙◌}
use Rattle.std.proofs.Math.Arith.{lt_of_le-ne}
use Rattle.walker.specs.Ways.{fit_none, fit_many, fit_stops, fit_goes}
use Rattle.walker.proofs.Walk.+arguments_fit.Goals as goal

pub returns-in_default : goal.returns-in_default
returns-in_default t c = λ h s k own. rw (c.in_default.ensures.none h s k) (fit_none s _ _ c.requires.1)

pub returns-then-y-end : goal.returns-then-y-end
returns-then-y-end t c = λ h s k own. let g = c.in-Some.ensures.head h s k in rw g.is (fit_many s _ _ _ _ c.if-y-end.true)

pub returns-then-argument_fits : goal.returns-then-argument_fits
returns-then-argument_fits t c =
    λ h s k own.
    let g = c.in-Some.ensures.head h s k in
    rw g.is (fit_goes s _ _ _ _ (c.argument_fits.ensures.is h s own) c.if-argument_fits.true (lt_of_le-ne c.requires.1 c.if-y-end.false) (c.arguments_fit.ensures h s g.rest own))

pub returns-else-argument_fits : goal.returns-else-argument_fits
returns-else-argument_fits t c =
    λ h s k own.
    let g = c.in-Some.ensures.head h s k in
    rw g.is (c.if-argument_fits.false ∙ fit_stops s _ _ _ _ (c.argument_fits.ensures.is h s own) c.if-argument_fits.false)
