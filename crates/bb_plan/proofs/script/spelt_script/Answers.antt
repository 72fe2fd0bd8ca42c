use Rattle.std.proofs.Common.{ap}
use Rattle.bb_script.specs.Script.{script_of}
use Rattle.bb_script.specs.Tree.{ScriptTree}
use Rattle.bb_plan.specs.PlanSteps.{refused_as, script_by}
use Rattle.bb_plan.specs.declared.refusal.Refusal.TheVariants.{BadScript}
use Rattle.bb_plan.proofs.Readings.{refused_step}
use Rattle.bb_plan.proofs.Sources.{script_refused}
use Rattle.bb_plan.proofs.script.spelt_script.Goals as goal

pub returns-in_err-read-clause-gives : goal.returns-in_err-read-clause-gives
returns-in_err-read-clause-gives c =
    refused_step (script_by c.args.text.now) (λ (s : ScriptTree). s) c.from_residual.result
    c.from_residual.ensures.1
    (script_refused (script_of c.args.text.now) c.in_err-read.field-0.0
    c.in_err-read.ensures.refused)

pub returns-clause-gives : goal.returns-clause-gives
returns-clause-gives c = ap (refused_as BadScript) c.in_ok-read.ensures.ok
