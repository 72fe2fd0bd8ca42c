use Rattle.std.proofs.Common.{◌≡◌, fold, take}
use Rattle.bb_base.specs.Crc.{after_byte}
use Rattle.bb_base.proofs.remainders.register_after.Given as goal

-- the bytes so far are divided off
abbrev pub invariant-loop-byte : goal.invariant-loop-byte
invariant-loop-byte l = l.register ≡ fold after_byte l.start (take l.byte-index l.bytes)
