use Rattle.std.proofs.Common.{rules}
use Rattle.bb_chooser.proofs.after.is_better.Goals as goal

pub returns-then-count-gt0 : goal.returns-then-count-gt0
returns-then-count-gt0 c = search rules

pub returns-else-count-gt0 : goal.returns-else-count-gt0
returns-else-count-gt0 c = search rules
