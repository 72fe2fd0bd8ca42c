use Rattle.bb_base.proofs.Checks.{same_check}
use Rattle.bb_base.proofs.law.law_any_cutting.Goals as goal

pub returns : goal.returns
returns c = same_check
