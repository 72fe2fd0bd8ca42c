use Rattle.std.proofs.Common.{◌≡◌, length}
use Rattle.bb_script.specs.Tokens.{tokens_of}
use Rattle.bb_script.proofs.next_token.find_token.Given as goal

-- what is passed over are blanks
abbrev pub invariant-loop-c : goal.invariant-loop-c
invariant-loop-c l = tokens_of l.input.total l.text ≡ tokens_of l.input.total l.rest

abbrev pub decreases-loop-c : goal.decreases-loop-c
decreases-loop-c l = length l.rest
