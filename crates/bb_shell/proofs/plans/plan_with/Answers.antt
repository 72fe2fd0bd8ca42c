use Rattle.std.proofs.Common.{rules}
use Rattle.bb_shell.proofs.plans.plan_with.Goals as goal

pub returns : goal.returns
returns c = search rules
