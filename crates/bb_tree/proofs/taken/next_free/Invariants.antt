use Rattle.std.proofs.Common.{◌-◌, ◌<◌, ◌≤◌, ◌^◌}
use Rattle.bb_tree.specs.Taking.{TakenBelow}
use Rattle.bb_tree.proofs.taken.next_free.Given as goal

-- all before n are taken
abbrev pub invariant-loop-n : goal.invariant-loop-n
invariant-loop-n l = record { some : 1 ≤ l.n; below : TakenBelow l.taken.keys l.n; within : l.n < 2 ^ 32 }

abbrev pub decreases-loop-n : goal.decreases-loop-n
decreases-loop-n l = 2 ^ 32 - l.n
