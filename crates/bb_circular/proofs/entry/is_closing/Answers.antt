use Rattle.std.proofs.Common.{rules}
use Rattle.bb_circular.proofs.entry.is_closing.Goals as goal

pub returns-then-len-ge1 : goal.returns-then-len-ge1
returns-then-len-ge1 c = search rules

pub returns-else-len-ge1 : goal.returns-else-len-ge1
returns-else-len-ge1 c = search rules
