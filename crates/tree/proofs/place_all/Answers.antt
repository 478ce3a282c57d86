-- The loop is its own tail; a depth before node n is at most n + 1, so that one more fits.
use Rattle.std.proofs.Common.{arith, ap, ◌∙◌, sym, subst}
use Rattle.std.specs.Prelude.{List, ◌+◌}
use Rattle.std.specs.List.{All}
use Rattle.rules.specs.Image as rules
use Rattle.tree.specs.declared.Place.{Place}
use Rattle.tree.specs.Turns.{turn_next, turn_last}
use Rattle.tree.specs.Places.{all-steps, at-most-next, depth-within, children_placed, AtMost}
use Rattle.tree.proofs.place_all.Goals as goal

pub place_children-requires : goal.place_children-requires
place_children-requires c =
    let within = depth-within c.loop-n.n (c.loop-n.n + 1) c.loop-n.places c.loop-n.invariant.1 in
    let own = ap (λ (p : Place). p.depth) c.place_at-own.ensures in
    omega arith

pub loop-n-preserved : goal.loop-n-preserved
loop-n-preserved c =
    let e = c.place_children.ensures ∙ ap (λ (r : rules.Node). children_placed c.place_at-own.result r c.loop-n.places) c.record_at.ensures
    ∙ ap (λ (p : Place). children_placed p (rules.node_of c.args.nodes.now c.loop-n.n) c.loop-n.places) c.place_at-own.ensures in (
      turn_next _ _ (all-steps _) _ _ _ _ c.loop-n.invariant.0 c.loop-n-test.true _ e,
      subst (λ (x : List Place). All (AtMost (c.loop-n.n + 1 + 1)) x) (sym e) (at-most-next _ c.loop-n.n c.loop-n.places c.loop-n.invariant.1),
    )

pub returns : goal.returns
returns c = turn_last _ _ (all-steps _) _ _ _ _ c.loop-n.invariant.0 c.loop-n-test.false
