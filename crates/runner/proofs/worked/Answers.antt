-- `runner::worked` meets its contract: the table and the first work words are as the execution starts, and what the executors end with is taken from the front again.
-- Assumes nothing.
use lib.Seq.{length-take-le}
use mathlib.Core.Path.{refl, sym, ap, ◌∙◌}
use native.Mathlib.Omega.{arith}
use Rattle.rules.specs.Image as image
use Rattle.runner.proofs.Endings.{worked}
use Rattle.runner.proofs.Program.{keeps, body_statement, last_one}
use Rattle.runner.proofs.Entrance.{few_cells, enough, placing}
use Rattle.runner.proofs.worked.Goals as goal

pub overflow_cast-store : goal.overflow_cast-store
overflow_cast-store c = omega (arith, few_cells c.requires.ready)

pub placed-requires : goal.placed-requires
placed-requires c = placing c.requires.ready

pub copy_in-requires : goal.copy_in-requires
copy_in-requires c = omega (arith, few_cells c.requires.ready, enough c.requires.ready)

pub overflow_sub-p : goal.overflow_sub-p
overflow_sub-p c = omega (arith, (keeps c.requires.ready).some)

pub slice_bounds-executed-end : goal.slice_bounds-executed-end
slice_bounds-executed-end c = omega (arith, c.from-total.ensures, c.placed.ensures.total-is, few_cells c.requires.ready, enough c.requires.ready, c.copy_in.auto.work)

pub slice_bounds-executed-end-2 : goal.slice_bounds-executed-end-2
slice_bounds-executed-end-2 c = sym (length-take-le _ _ (omega (arith, c.from-total.ensures, c.placed.ensures.total-is, few_cells c.requires.ready, enough c.requires.ready, c.copy_in.auto.work)))

pub executed-requires : goal.executed-requires
executed-requires c = (
  rw (ap (λ (q : image.Procedure). q.body) c.procedure_at-body.ensures) (body_statement c.requires.ready _ (last_one c.requires.ready)),
  λ q l. body_statement c.requires.ready q (omega (arith, last_one c.requires.ready)),
)

pub returns-clause-worked : goal.returns-clause-worked
returns-clause-worked c =
    worked c.requires.ready _ _ _ _ _ _ _ _ _ _ _ _ _ _ _ c.requires.begins.work_value c.copy_in.ensures (c.from-total.ensures ∙ c.placed.ensures.total-is)
    (c.executed.auto.cells ∙ length-take-le _ _ (omega (arith, c.from-total.ensures, c.placed.ensures.total-is, few_cells c.requires.ready, enough c.requires.ready, c.copy_in.auto.work)))
    refl (ap (λ (q : image.Procedure). q.body) c.procedure_at-body.ensures) refl c.placed.auto.slots c.placed.ensures.slots_are refl c.requires.begins c.executed.ensures.executed
