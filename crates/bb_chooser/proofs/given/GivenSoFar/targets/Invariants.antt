use Rattle.std.proofs.Common.{◌≡◌, map, take}
use Rattle.bb_chooser.specs.GivenSoFar.{given_in}
use Rattle.bb_chooser.specs.Settings.{target_of}
use Rattle.bb_chooser.proofs.given.GivenSoFar.targets.Given as goal

-- the names so far have their targets
abbrev pub invariant-loop-place : goal.invariant-loop-place
invariant-loop-place l = l.targets.items ≡ map (target_of (given_in l.self)) (take l.place l.names)
