use Rattle.std.proofs.Common.{rules}
use Rattle.bb_plan.proofs.refusal.Refusal.status.Goals as goal

pub returns-in-StartFailed : goal.returns-in-StartFailed
returns-in-StartFailed c = search rules

pub returns-in-NoGood : goal.returns-in-NoGood
returns-in-NoGood c = search rules
