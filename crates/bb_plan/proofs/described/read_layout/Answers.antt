use Rattle.std.specs.Option.{option_copied}
use Rattle.bb_layout.specs.Layout.{fields_of}
use Rattle.bb_plan.specs.PlanSteps.{layout_by}
use Rattle.bb_plan.proofs.Readings.{file_step, file_stopped}
use Rattle.bb_plan.proofs.described.read_layout.Goals as goal

pub returns-in_err-bytes-clause-read : goal.returns-in_err-bytes-clause-read
returns-in_err-bytes-clause-read g c =
    file_stopped (layout_by (option_copied c.args.name) c.args.geometry) fields_of
    c.in_err-bytes.ensures.read c.from_residual.result c.from_residual.ensures.1

pub returns-clause-read : goal.returns-clause-read
returns-clause-read g c =
    file_step (layout_by (option_copied c.args.name) c.args.geometry) fields_of
    c.described_layout.result c.in_ok-bytes.ensures.read c.as_slice.ensures
    c.described_layout.ensures.gives
