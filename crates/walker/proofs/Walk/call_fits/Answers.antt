-- The callee's number, then its parameters.
use Rattle.std.proofs.lemmas.Bool.{lt-ltb, le-ltb}
use Rattle.walker.specs.Simple.{call_fit}
use Rattle.walker.proofs.Walk.call_fits.Goals as goal

pub returns-then-q-self : goal.returns-then-q-self
returns-then-q-self c = λ h s k own procs. rw (← call_fit c.args.self.now c.args.q c.procedure_at-r.ensures s _ procs, lt-ltb _ _ c.if-q-self.true) (c.arguments_fit.ensures h s k own)

pub returns-else-q-self : goal.returns-else-q-self
returns-else-q-self c = λ h s k own procs. rw (← call_fit c.args.self.now c.args.q c.procedure_at-r.ensures s _ procs, le-ltb _ _ c.if-q-self.false)
