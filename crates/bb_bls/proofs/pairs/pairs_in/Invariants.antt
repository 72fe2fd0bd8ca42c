use Rattle.std.proofs.Common.{◌≡◌, filter_map, map}
use Rattle.bb_bls.specs.Entry.{pair_of}
use Rattle.bb_bls.specs.References.{text_pair}
use Rattle.bb_bls.proofs.pairs.pairs_in.Given as goal

abbrev pub invariant-loop-line : goal.invariant-loop-line
invariant-loop-line l = map text_pair l.pairs.items ≡ filter_map pair_of (map (λ y. y.now) l.yielded)
