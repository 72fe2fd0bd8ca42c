use Rattle.std.proofs.Common.{◌≡◌, ◌≤◌}
use Rattle.bb_script.specs.Descent.{text_walk, tokens_left}
use Rattle.bb_script.specs.Places.{AfterOperator}
use Rattle.bb_script.proofs.command.command_start.Given as goal

abbrev pub invariant-loop-token : goal.invariant-loop-token
invariant-loop-token l =
    (text_walk l.input l.nesting AfterOperator l.text ≡ text_walk l.input l.nesting AfterOperator l.rest)
    × (tokens_left l.input l.rest ≤ tokens_left l.input l.text)

abbrev pub decreases-loop-token : goal.decreases-loop-token
decreases-loop-token l = tokens_left l.input l.rest
