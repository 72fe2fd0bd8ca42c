use Rattle.std.proofs.Common.{rules}
use Rattle.bb_plan.proofs.described.read_source_tree.Goals as goal

pub returns-clause-read : goal.returns-clause-read
returns-clause-read c = search rules
