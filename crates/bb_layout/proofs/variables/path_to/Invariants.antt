use Rattle.std.proofs.Common.{◌≡◌, take}
use Rattle.bb_layout.proofs.variables.path_to.Given as goal

-- the names so far are copied
abbrev pub invariant-loop-text : goal.invariant-loop-text
invariant-loop-text l = l.path ≡ take l.text-index l.text-items
