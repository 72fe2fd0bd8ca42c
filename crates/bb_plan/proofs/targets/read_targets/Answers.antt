use Rattle.bb_chooser.specs.Binding.{Binding}
use Rattle.bb_layout.specs.Layout.{fields_of}
use Rattle.bb_plan.specs.PlanSteps.{targets_by}
use Rattle.bb_plan.proofs.Readings.{file_step, file_stopped}
use Rattle.bb_plan.proofs.targets.read_targets.Goals as goal

pub returns-in_err-text-clause-read : goal.returns-in_err-text-clause-read
returns-in_err-text-clause-read g c =
    file_stopped (targets_by (fields_of c.args.layout.now)) (λ (b : Binding). b)
    c.in_err-text.ensures.read c.from_residual.result c.from_residual.ensures.1

pub returns-clause-read : goal.returns-clause-read
returns-clause-read g c =
    file_step (targets_by (fields_of c.args.layout.now)) (λ (b : Binding). b)
    c.bound_targets.result c.in_ok-text.ensures.read c.as_slice.ensures
    c.bound_targets.ensures.gives
