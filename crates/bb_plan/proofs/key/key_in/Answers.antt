use Rattle.std.proofs.Common.{ℕ, List, Ok, Err}
use Rattle.bb_plan.specs.PlanSteps.{block_by}
use Rattle.bb_plan.proofs.Readings.{refused_step}
use Rattle.bb_plan.proofs.Sources.{block_is}
use Rattle.bb_plan.proofs.key.key_in.Goals as goal

pub returns-in_err-from_hex-clause-gives : goal.returns-in_err-from_hex-clause-gives
returns-in_err-from_hex-clause-gives c =
    refused_step (block_by c.args.text.now) (λ (b : List ℕ). b) c.from_residual.result
    c.from_residual.ensures.1
    (λ some. block_is c.args.text.now (Err c.in_err-from_hex.field-0.0)
    c.in_err-from_hex.ensures.value)

pub returns-clause-gives : goal.returns-clause-gives
returns-clause-gives c =
    block_is c.args.text.now (Ok c.in_ok-from_hex.field-0) c.in_ok-from_hex.ensures.value
