use Rattle.std.proofs.Common.{◌≡◌, ◌-◌, length}
use Rattle.bb_script.specs.Reading.{open_seen}
use Rattle.bb_script.specs.Tokens.{Within, tokens, word_begun}
use Rattle.bb_script.proofs.next_token.read_word.Given as goal

abbrev pub invariant-loop-c : goal.invariant-loop-c
invariant-loop-c l =
    tokens l.input.total 0 l.text (Within (word_begun (l.input.total - length l.text)))
    ≡ tokens l.input.total 0 l.rest (Within (open_seen l.so_far))

abbrev pub decreases-loop-c : goal.decreases-loop-c
decreases-loop-c l = length l.rest
