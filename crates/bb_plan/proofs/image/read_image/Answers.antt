use Rattle.std.proofs.Common.{ℕ, List, refl}
use Rattle.bb_plan.specs.Installing.{fitting}
use Rattle.bb_plan.proofs.Readings.{file_step, file_stopped}
use Rattle.bb_plan.proofs.image.read_image.Goals as goal

pub returns-in_err-image-clause-read : goal.returns-in_err-image-clause-read
returns-in_err-image-clause-read g c =
    file_stopped (fitting c.args.slot) (λ (b : List ℕ). b) c.in_err-image.ensures.read
    c.from_residual.result c.from_residual.ensures.1

pub returns-clause-read : goal.returns-clause-read
returns-clause-read g c =
    file_step (fitting c.args.slot) (λ (b : List ℕ). b) c.fitting.result
    c.in_ok-image.ensures.read refl c.fitting.ensures.gives
