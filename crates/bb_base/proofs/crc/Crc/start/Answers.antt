use Rattle.std.proofs.Common.{rules}
use Rattle.bb_base.proofs.crc.Crc.start.Goals as goal

pub returns : goal.returns
returns c = search rules
