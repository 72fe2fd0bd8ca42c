use Rattle.std.proofs.Common.{rules}
use Rattle.bb_layout.proofs.ranges.is_first_of_name.Goals as goal

pub returns-in-Some-find : goal.returns-in-Some-find
returns-in-Some-find c = search rules
