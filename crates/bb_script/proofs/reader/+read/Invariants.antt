use Rattle.std.proofs.Common.{◌≡◌, ◌≤◌, ◌+◌, ◌*◌, [], map}
use Rattle.bb_script.specs.declared.script.When.TheVariants.{Always}
use Rattle.bb_script.specs.Descent.{fresh_walk, steps_walk, tokens_left, walk_due, walk_inside}
use Rattle.bb_script.specs.TokenWalks.{token_walk}
use Rattle.bb_script.specs.Places.{TestOf}
use Rattle.bb_script.specs.Views.{branch_pair, step_pair}
use Rattle.bb_script.proofs.reader.+read.Given as goal

abbrev pub decreases-read_steps : goal.decreases-read_steps
decreases-read_steps l = 4 * tokens_left l.input l.text.now

abbrev pub decreases-read_chain : goal.decreases-read_chain
decreases-read_chain l = 4 * tokens_left l.input l.first.now.rest.now + 3

abbrev pub decreases-read_command : goal.decreases-read_command
decreases-read_command l = 4 * tokens_left l.input l.first.now.rest.now + 2

abbrev pub decreases-read_if : goal.decreases-read_if
decreases-read_if l = 4 * tokens_left l.input l.text.now + 1

abbrev pub decreases-read_for : goal.decreases-read_for
decreases-read_for l = 4 * tokens_left l.input l.text.now + 1

abbrev pub invariant-read_steps-loop-steps : goal.invariant-read_steps-loop-steps
invariant-read_steps-loop-steps l =
    (fresh_walk l.input l.nesting l.text
    ≡ steps_walk l.input l.nesting (map step_pair l.steps.items) l.rest)
    × (tokens_left l.input l.rest ≤ tokens_left l.input l.text)

abbrev pub decreases-read_steps-loop-steps : goal.decreases-read_steps-loop-steps
decreases-read_steps-loop-steps l = tokens_left l.input l.rest

abbrev pub invariant-read_chain-loop-command : goal.invariant-read_chain-loop-command
invariant-read_chain-loop-command l =
    (walk_due (map step_pair l.fn.steps.items) Always (token_walk l.input l.nesting l.fn.keyword l.first l.fn.word)
    ≡ walk_due (map step_pair l.steps.items) l.due (token_walk l.input l.nesting l.keyword l.token l.word))
    × (tokens_left l.input l.token.rest.now ≤ tokens_left l.input l.first.rest.now)

abbrev pub decreases-read_chain-loop-command : goal.decreases-read_chain-loop-command
decreases-read_chain-loop-command l = tokens_left l.input l.token.rest.now

abbrev pub invariant-read_if-loop-branches : goal.invariant-read_if-loop-branches
invariant-read_if-loop-branches l =
    (walk_inside l.fn.nesting (TestOf []) (fresh_walk l.input l.inner l.text)
    ≡ walk_inside l.fn.nesting (TestOf (map branch_pair l.branches.items)) (fresh_walk l.input l.inner l.rest))
    × (tokens_left l.input l.rest ≤ tokens_left l.input l.text)

abbrev pub decreases-read_if-loop-branches : goal.decreases-read_if-loop-branches
decreases-read_if-loop-branches l = tokens_left l.input l.rest
