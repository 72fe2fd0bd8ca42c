use Rattle.std.proofs.Common.{◌≡◌, map, string_bytes, take}
use Rattle.std.specs.List.{join_with_byte}
use Rattle.bb_bls.proofs.values.join_values.Given as goal

abbrev pub invariant-loop-i : goal.invariant-loop-i
invariant-loop-i l = string_bytes l.joined ≡ join_with_byte 32 (map (λ v. v.now) (take l.i l.values))
