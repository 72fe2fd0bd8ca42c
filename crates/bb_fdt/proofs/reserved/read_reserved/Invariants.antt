use Rattle.std.proofs.Common.{◌≡◌, ◌++◌, length}
use Rattle.std.specs.Option.{option_map}
use Rattle.bb_fdt.specs.Reading.{pairs_in}
use Rattle.bb_fdt.proofs.reserved.read_reserved.Given as goal

-- the pairs so far stand before those after
abbrev pub invariant-loop-rest : goal.invariant-loop-rest
invariant-loop-rest l = pairs_in 0 l.text ≡ option_map (λ more. l.pairs ++ more) (pairs_in 0 l.rest)

abbrev pub decreases-loop-rest : goal.decreases-loop-rest
decreases-loop-rest l = length l.rest
