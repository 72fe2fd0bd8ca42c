use Rattle.std.proofs.Common.{rules}
use Rattle.bb_bucket.proofs.entry.write_filled_entry.Goals as goal

pub returns : goal.returns
returns c = search rules
