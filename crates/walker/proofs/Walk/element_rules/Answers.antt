-- The name's rules and the index's secrecy, over the array's record.
use mathlib.Core.Path.{ap, ◌∙◌}
use Rattle.rules.specs.Image.{is_array, is_secret}
use Rattle.rules.specs.Walk.{element_refusal}
use Rattle.walker.specs.Judge.{halts, then-on, refuses, valued, not_valued, read}
use Rattle.walker.proofs.Walk.element_rules.Goals as goal

pub returns-in_err-named : goal.returns-in_err-named
unfolding element_refusal
returns-in_err-named c =
    let f = c.from_residual.ensures.1 in
    record {
      is = λ s Γ sc small e q.
          rw (← c.node-n.ensures, ← c.root-x.ensures, ← c.is_array.ensures ∙ ap is_array (read s sc.own _ c.variable-v.ensures))
          (halts _ _ _ f (c.in_err-named.ensures Γ sc.marks (rw c.root-x.ensures small)));
      type = λ s own. not_valued _ _ f _;
    }

pub returns-in_err-given : goal.returns-in_err-given
unfolding element_refusal
returns-in_err-given c =
    let f = c.from_residual-in_err-given.ensures.1 in
    record {
      is = λ s Γ sc small e q.
          rw (← c.node-n.ensures, ← c.root-x.ensures, ← q, ← c.is_unsafe-free.ensures, ← c.is_array.ensures ∙ ap is_array (read s sc.own _ c.variable-v.ensures), ← c.is_secret-secret.ensures ∙ ap is_secret (read s sc.own _ c.variable-v.ensures))
          (then-on (c.in_ok-named.ensures Γ sc.marks (rw c.root-x.ensures small)) (refuses _ _ f c.in_err-given.ensures));
      type = λ s own. not_valued _ _ f _;
    }

pub returns : goal.returns
unfolding element_refusal
returns c =
    record {
      is = λ s Γ sc small e q.
          rw (← c.node-n.ensures, ← c.root-x.ensures, ← q, ← c.is_unsafe-free.ensures, ← c.is_array.ensures ∙ ap is_array (read s sc.own _ c.variable-v.ensures), ← c.is_secret-secret.ensures ∙ ap is_secret (read s sc.own _ c.variable-v.ensures))
          (then-on (c.in_ok-named.ensures Γ sc.marks (rw c.root-x.ensures small)) c.in_ok-given.ensures);
      type = λ s own. rw (← c.root-x.ensures, ← c.is_secret-secret.ensures ∙ ap is_secret (read s own _ c.variable-v.ensures)) (valued _);
    }
