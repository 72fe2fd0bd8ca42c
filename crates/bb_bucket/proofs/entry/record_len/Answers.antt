use Rattle.std.proofs.Common.{rules}
use Rattle.bb_bucket.proofs.entry.record_len.Goals as goal

pub returns : goal.returns
returns c = search rules
