use Rattle.bb_script.specs.Tree.{ScriptTree}
use Rattle.bb_plan.specs.PlanSteps.{script_by}
use Rattle.bb_plan.proofs.Readings.{file_step, file_stopped}
use Rattle.bb_plan.proofs.script.read_script_file.Goals as goal

pub returns-in_err-text-clause-read : goal.returns-in_err-text-clause-read
returns-in_err-text-clause-read g c =
    file_stopped script_by (λ (s : ScriptTree). s) c.in_err-text.ensures.read
    c.from_residual.result c.from_residual.ensures.1

pub returns-clause-read : goal.returns-clause-read
returns-clause-read g c =
    file_step script_by (λ (s : ScriptTree). s) c.spelt_script.result c.in_ok-text.ensures.read
    c.as_slice.ensures c.spelt_script.ensures.gives
