use Rattle.std.proofs.Common.{ℕ, List}
use Rattle.bb_plan.specs.PlanSteps.{block_by}
use Rattle.bb_plan.proofs.Readings.{file_step, file_stopped}
use Rattle.bb_plan.proofs.key.spelt_key.Goals as goal

pub returns-in_err-text-clause-read : goal.returns-in_err-text-clause-read
returns-in_err-text-clause-read g c =
    file_stopped block_by (λ (b : List ℕ). b) c.in_err-text.ensures.read c.from_residual.result
    c.from_residual.ensures.1

pub returns-clause-read : goal.returns-clause-read
returns-clause-read g c =
    file_step block_by (λ (b : List ℕ). b) c.key_in.result c.in_ok-text.ensures.read
    c.as_slice.ensures c.key_in.ensures.gives
