use Rattle.std.proofs.Common.{◌≡◌, drop}
use Rattle.bb_actions.specs.Actions.{read_actions}
use Rattle.bb_actions.proofs.Steps.{onto_bound}
use Rattle.bb_actions.proofs.read.read_actions.Given as goal

-- the actions so far are bound, and the rest comes after them
abbrev pub invariant-loop-action : goal.invariant-loop-action
invariant-loop-action l =
    read_actions l.layout.vars l.action-items ≡ onto_bound l.bound (read_actions l.layout.vars (drop l.action-index l.action-items))
