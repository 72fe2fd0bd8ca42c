use Rattle.std.proofs.Common.{◌≡◌, take}
use Rattle.bb_layout.specs.Layout.{fields_of}
use Rattle.bb_actions.specs.Actions.{actions_text}
use Rattle.bb_actions.proofs.text.actions_text.Given as goal

-- the text of the actions so far is there
abbrev pub invariant-loop-action : goal.invariant-loop-action
invariant-loop-action l = l.out ≡ actions_text (fields_of l.layout) l.area (take l.action-index l.action-items)
