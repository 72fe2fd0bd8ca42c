use Rattle.bb_chooser.proofs.Best.{BestSoFar}
use Rattle.bb_chooser.specs.After.{counts_after}
use Rattle.bb_chooser.proofs.after.best_after.Given as goal

abbrev pub invariant-loop-i : goal.invariant-loop-i
invariant-loop-i l = BestSoFar (counts_after l.resets l.table l.targets) l.i l.best l.highest
