use Rattle.std.proofs.Common.{◌≡◌, length, take}
use Rattle.bb_chooser.specs.Resets.{with_attempts}
use Rattle.bb_chooser.proofs.writes.put_default_attempts.Given as goal

-- the targets so far have theirs
abbrev pub invariant-loop-target : goal.invariant-loop-target
invariant-loop-target l = record {
  put : l.table ≡ with_attempts l.fn.table (take l.target-index l.targets);
  same : length l.table ≡ length l.fn.table;
}
