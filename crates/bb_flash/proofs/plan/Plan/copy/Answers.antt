use Rattle.std.proofs.Common.{rules}
use Rattle.bb_flash.proofs.plan.Plan.copy.Goals as goal

pub returns : goal.returns
returns c = search rules
