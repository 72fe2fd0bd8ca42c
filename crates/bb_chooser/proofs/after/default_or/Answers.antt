use Rattle.std.proofs.Common.{arith, sym}
use Rattle.std.proofs.lemmas.Nat.{from_le_bytes-to_le_bytes_4}
use Rattle.bb_chooser.proofs.after.default_or.Goals as goal

pub returns-then-is_reset : goal.returns-then-is_reset
returns-then-is_reset c = rw c.if-is_reset.true (sym (from_le_bytes-to_le_bytes_4 c.args.default (omega (arith, c.ranges.default))))
