use Rattle.std.proofs.Common.{◌≡◌, map, take}
use Rattle.bb_bls.specs.Entry.{values_of}
use Rattle.bb_bls.specs.References.{text_pair}
use Rattle.bb_bls.proofs.pairs.values.Given as goal

abbrev pub invariant-loop-i : goal.invariant-loop-i
invariant-loop-i l = map (λ v. v.now) l.values.items ≡ values_of l.key (map text_pair (take l.i l.pairs))
