-- An array's size is public.
use mathlib.Core.Path.{ap, ◌∙◌}
use Rattle.rules.specs.Image.{is_array}
use Rattle.rules.specs.Walk.{expr_refusal, secret}
use Rattle.walker.specs.Judge.{refuses, valued, not_valued, read}
use Rattle.walker.proofs.Walk.size.Goals as goal

pub returns-in_err-named : goal.returns-in_err-named
unfolding expr_refusal secret
returns-in_err-named c =
    let f = c.from_residual.ensures.1 in
    record {
      is = λ s Γ sc small. record {
        is = rw (← c.is_array.ensures ∙ ap is_array (read s sc.own _ c.variable.ensures)) (refuses _ _ f (c.in_err-named.ensures Γ sc.marks small));
        type = not_valued _ _ f _;
      };
    }

pub returns : goal.returns
unfolding expr_refusal secret
returns c = record {
  is = λ s Γ sc small. record {
    is = rw (← c.is_array.ensures ∙ ap is_array (read s sc.own _ c.variable.ensures)) (c.in_ok-named.ensures Γ sc.marks small);
    type = valued _;
  };
}
