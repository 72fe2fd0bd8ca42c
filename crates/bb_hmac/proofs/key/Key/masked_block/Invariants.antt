use Rattle.std.proofs.Common.{◌≡◌, ◌++◌, bit_xor, drop, map, take}
use Rattle.bb_hmac.proofs.key.Key.masked_block.Given as goal

-- the bytes so far are changed
abbrev pub invariant-loop-byte : goal.invariant-loop-byte
invariant-loop-byte l =
    l.byte-items ≡ map (λ byte. bit_xor byte l.pad) (take l.byte-index l.initial.byte-items) ++ drop l.byte-index l.initial.byte-items
