use Rattle.std.proofs.Common.{◌≡◌, ◌≤◌}
use Rattle.bb_script.specs.Descent.{head_seen, text_walk, tokens_left}
use Rattle.bb_script.specs.Places.{LoopDo}
use Rattle.bb_script.proofs.loop_start.read_do.Given as goal

abbrev pub invariant-loop-token : goal.invariant-loop-token
invariant-loop-token l =
    (text_walk l.input l.inner (LoopDo (head_seen l.start)) l.text
    ≡ text_walk l.input l.inner (LoopDo (head_seen l.start)) l.rest)
    × (tokens_left l.input l.rest ≤ tokens_left l.input l.text)

abbrev pub decreases-loop-token : goal.decreases-loop-token
decreases-loop-token l = tokens_left l.input l.rest
