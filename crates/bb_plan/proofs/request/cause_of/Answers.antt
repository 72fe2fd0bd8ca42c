use Rattle.std.proofs.Common.{rules}
use Rattle.bb_plan.proofs.request.cause_of.Goals as goal

pub returns-in-PowerOn : goal.returns-in-PowerOn
returns-in-PowerOn c = search rules
