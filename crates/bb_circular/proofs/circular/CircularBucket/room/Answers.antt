use Rattle.std.proofs.Common.{rules}
use Rattle.bb_circular.proofs.circular.CircularBucket.room.Goals as goal

pub returns : goal.returns
returns c = search rules
