use Rattle.std.proofs.Common.{rules}
use Rattle.bb_bucket.proofs.stride.StrideBucket.room.Goals as goal

pub returns : goal.returns
returns c = search rules
