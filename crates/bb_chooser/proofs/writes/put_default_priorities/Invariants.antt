use Rattle.std.proofs.Common.{◌≡◌, length, take}
use Rattle.bb_chooser.specs.Resets.{with_priorities}
use Rattle.bb_chooser.proofs.writes.put_default_priorities.Given as goal

-- the targets so far have theirs
abbrev pub invariant-loop-target : goal.invariant-loop-target
invariant-loop-target l = record {
  put : l.table ≡ with_priorities l.fn.table (take l.target-index l.targets);
  same : length l.table ≡ length l.fn.table;
}
