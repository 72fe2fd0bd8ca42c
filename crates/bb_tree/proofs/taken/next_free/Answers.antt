use Rattle.std.proofs.Common.{rules}
use Rattle.bb_tree.proofs.taken.next_free.Goals as goal

pub loop-n-preserved : goal.loop-n-preserved
loop-n-preserved c = search rules

pub returns-clause-free : goal.returns-clause-free
returns-clause-free c = search rules
