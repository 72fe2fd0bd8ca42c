use Rattle.std.proofs.Common.{◌≡◌, ◌≤◌, map}
use Rattle.bb_script.specs.Descent.{text_walk, tokens_left}
use Rattle.bb_script.specs.Places.{Words}
use Rattle.bb_script.specs.Words.{word_atoms}
use Rattle.bb_script.proofs.command.read_words.Given as goal

abbrev pub invariant-loop-token : goal.invariant-loop-token
invariant-loop-token l =
    (text_walk l.input l.fn.nesting (Words (map word_atoms l.fn.words.items)) l.text
    ≡ text_walk l.input l.fn.nesting (Words (map word_atoms l.words.items)) l.rest)
    × (tokens_left l.input l.rest ≤ tokens_left l.input l.text)

abbrev pub decreases-loop-token : goal.decreases-loop-token
decreases-loop-token l = tokens_left l.input l.rest
