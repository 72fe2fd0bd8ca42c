use Rattle.std.proofs.Common.{◌≡◌, ◌≤◌, length}
use Rattle.bb_fdt.specs.Tokens.{first_token}
use Rattle.bb_fdt.proofs.next_token.next_token.Given as goal

-- what is passed over is FDT_NOP
abbrev pub invariant-loop-rest : goal.invariant-loop-rest
invariant-loop-rest l = (first_token l.end 0 l.text ≡ first_token l.end 0 l.rest) × (length l.rest ≤ length l.text)

abbrev pub decreases-loop-rest : goal.decreases-loop-rest
decreases-loop-rest l = length l.rest
