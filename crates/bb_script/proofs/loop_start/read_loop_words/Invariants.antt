use Rattle.std.proofs.Common.{◌≡◌, ◌≤◌}
use Rattle.bb_script.specs.Descent.{head_seen, text_walk, tokens_left}
use Rattle.bb_script.specs.Places.{LoopWords}
use Rattle.bb_script.proofs.loop_start.read_loop_words.Given as goal

abbrev pub invariant-loop-token : goal.invariant-loop-token
invariant-loop-token l =
    (text_walk l.input l.inner (LoopWords (head_seen l.fn.start)) l.text
    ≡ text_walk l.input l.inner (LoopWords (head_seen l.start)) l.rest)
    × (l.start.outside ≡ l.fn.start.outside)
    × (tokens_left l.input l.rest ≤ tokens_left l.input l.text)

abbrev pub decreases-loop-token : goal.decreases-loop-token
decreases-loop-token l = tokens_left l.input l.rest
