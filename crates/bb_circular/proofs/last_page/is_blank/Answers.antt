use Rattle.std.proofs.Common.{rules}
use Rattle.bb_circular.proofs.last_page.is_blank.Goals as goal

pub returns-then-not-is_lost : goal.returns-then-not-is_lost
returns-then-not-is_lost c = search rules

pub returns-else-not-is_lost : goal.returns-else-not-is_lost
returns-else-not-is_lost c = search rules
