use Rattle.std.proofs.Common.{rules}
use Rattle.bb_circular.proofs.entry.write_filled.Goals as goal

pub returns : goal.returns
returns c = search rules
