use Rattle.std.proofs.Common.{◌≡◌, ◌≤◌, length}
use Rattle.bb_dts.specs.Tokens.{first_token}
use Rattle.bb_dts.proofs.next_token.next_token.Given as goal

-- what is passed over are blanks
abbrev pub invariant-loop-rest : goal.invariant-loop-rest
invariant-loop-rest l =
    (first_token l.mode l.total 0 l.text ≡ first_token l.mode l.total 0 l.rest) × (length l.rest ≤ length l.text)

abbrev pub decreases-loop-rest : goal.decreases-loop-rest
decreases-loop-rest l = length l.rest
