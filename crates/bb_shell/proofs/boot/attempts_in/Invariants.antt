use Rattle.std.proofs.Common.{◌≡◌, ◌≤◌, ◌*◌, take}
use Rattle.std.specs.Prelude.{sum_by}
use Rattle.bb_chooser.specs.Choosing.{number_at}
use Rattle.bb_shell.proofs.boot.attempts_in.Given as goal

-- the attempts so far are added up
abbrev pub invariant-loop-target : goal.invariant-loop-target
invariant-loop-target l = record {
  sum : l.attempts ≡ sum_by (λ t. number_at l.table t.attempts_at) (take l.target l.chooser.targets);
  few : l.attempts ≤ l.target * 4294967295;
}
