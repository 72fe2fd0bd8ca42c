use Rattle.std.proofs.Common.{◌≡◌, drop, max}
use Rattle.bb_layout.specs.Ranges.{greatest_end}
use Rattle.bb_layout.proofs.ranges.last_end.Given as goal

-- the greatest end so far
abbrev pub invariant-loop-var : goal.invariant-loop-var
invariant-loop-var l = max l.end (greatest_end (drop l.var-index l.var-items)) ≡ greatest_end l.vars
