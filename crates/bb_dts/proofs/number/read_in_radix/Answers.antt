use Rattle.std.proofs.Common.{rules}
use Rattle.bb_dts.proofs.number.read_in_radix.Goals as goal

pub returns-then-starts_with-2 : goal.returns-then-starts_with-2
returns-then-starts_with-2 c = search rules
