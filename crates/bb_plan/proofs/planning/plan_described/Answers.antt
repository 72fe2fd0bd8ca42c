use Rattle.std.proofs.Common.{refl}
use Rattle.bb_plan.specs.PlanSteps.{keyed_reading}
use Rattle.bb_plan.specs.Plan.{Work, keyed_as, on_copies, on_keyed, task_as, work_reading}
use Rattle.bb_plan.proofs.Readings.{gone_on, stopped, yielded}
use Rattle.bb_plan.proofs.planning.plan_described.Goals as goal

pub returns-in_err-keyed-clause-read : goal.returns-in_err-keyed-clause-read
returns-in_err-keyed-clause-read g c =
    stopped (on_keyed c.args.request) (keyed_reading c.args.described.now c.args.geometry) keyed_as
    task_as c.in_err-keyed.ensures.read c.from_residual.result c.from_residual.ensures.1

pub returns-in_err-work-clause-read : goal.returns-in_err-work-clause-read
returns-in_err-work-clause-read g c =
    let keyed = keyed_as c.in_ok-keyed.keyed in
    gone_on (on_keyed c.args.request) (keyed_reading c.args.described.now c.args.geometry) keyed_as
    task_as c.in_ok-keyed.keyed c.in_ok-keyed.ensures.read
    (stopped (on_copies keyed) (work_reading c.args.request keyed.layout) (λ (w : Work). w) task_as
    c.in_err-work.ensures.read c.from_residual-in_err-work.result
    c.from_residual-in_err-work.ensures.1)

pub returns-clause-read : goal.returns-clause-read
returns-clause-read g c =
    let keyed = keyed_as c.in_ok-keyed.keyed in
    gone_on (on_keyed c.args.request) (keyed_reading c.args.described.now c.args.geometry) keyed_as
    task_as c.in_ok-keyed.keyed c.in_ok-keyed.ensures.read
    (gone_on (on_copies keyed) (work_reading c.args.request keyed.layout) (λ (w : Work). w) task_as
    c.in_ok-work.work c.in_ok-work.ensures.read (yielded task_as refl))

pub returns-clause-planned : goal.returns-clause-planned
returns-clause-planned g c =
    record { laid = c.in_ok-keyed.ensures.laid; served = c.in_ok-work.ensures.served }
