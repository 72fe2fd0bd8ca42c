use Rattle.std.proofs.Common.{◌≡◌, ◌++◌, length}
use Rattle.bb_dts.specs.Strings.{quoted_bytes}
use Rattle.bb_dts.proofs.string.unescape.Given as goal

-- what is appended and what the rest gives make the whole
abbrev pub invariant-loop-rest : goal.invariant-loop-rest
invariant-loop-rest l = l.value ++ quoted_bytes 0 l.rest ≡ l.fn.value ++ quoted_bytes 0 l.text

abbrev pub decreases-loop-rest : goal.decreases-loop-rest
decreases-loop-rest l = length l.rest
