-- A constant is no array, and public.
use mathlib.Core.Path.{ap, ◌∙◌}
use Rattle.rules.specs.Image.{is_array, is_constant, is_secret}
use Rattle.walker.specs.Judge.{refuses, valued, not_valued, read, variable_refusal, variable_secret}
use Rattle.walker.proofs.Walk.variable_value.Goals as goal

pub returns-in_err-named : goal.returns-in_err-named
returns-in_err-named c =
    let f = c.from_residual.ensures.1 in
    record {
      is = λ s Γ sc small k. record {
        is = rw (← variable_refusal s Γ c.args.n c.args.x k, ← c.is_array.ensures ∙ ap is_array (read s sc.own _ c.variable-v.ensures)) (refuses _ _ f (c.in_err-named.ensures Γ sc.marks small));
        type = not_valued _ _ f _;
      };
    }

pub returns : goal.returns
returns c = record {
  is = λ s Γ sc small k. record {
    is = rw (← variable_refusal s Γ c.args.n c.args.x k, ← c.is_array.ensures ∙ ap is_array (read s sc.own _ c.variable-v.ensures)) (c.in_ok-named.ensures Γ sc.marks small);
    type =
        rw (← variable_secret s Γ c.args.n c.args.x k, ← c.is_constant.ensures ∙ ap is_constant (read s sc.own _ c.variable-v.ensures), ← c.is_secret.ensures ∙ ap is_secret (read s sc.own _ c.variable-v.ensures))
        (valued _);
  };
}
