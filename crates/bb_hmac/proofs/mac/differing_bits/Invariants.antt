use Rattle.std.proofs.Common.{◌≡◌, ◌↔◌, take}
use Rattle.bb_hmac.proofs.mac.differing_bits.Given as goal

abbrev pub invariant-loop-i : goal.invariant-loop-i
invariant-loop-i l = (l.differing ≡ 0) ↔ (take l.i l.mac ≡ take l.i l.bytes)
