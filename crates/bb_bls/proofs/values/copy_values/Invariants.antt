use Rattle.std.proofs.Common.{◌≡◌, map, take}
use Rattle.bb_bls.proofs.values.copy_values.Given as goal

abbrev pub invariant-loop-i : goal.invariant-loop-i
invariant-loop-i l = l.copies ≡ map (λ v. v.now) (take l.i l.values)
