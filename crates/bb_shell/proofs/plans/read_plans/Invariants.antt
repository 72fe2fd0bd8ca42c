use Rattle.std.proofs.Common.{◌≡◌}
use Rattle.bb_shell.proofs.Reading.{AreRead}
use Rattle.bb_shell.proofs.plans.read_plans.Given as goal

-- the plans of the targets so far were read, without a fault
abbrev pub invariant-loop-target : goal.invariant-loop-target
invariant-loop-target g l = record {
  read : AreRead l.chooser (g.F.Files.folder l.fn.files) l.target l.plans;
  told : (g.F.Files.folder l.files).told ≡ (g.F.Files.folder l.fn.files).told;
  faults : (g.F.Files.folder l.files).faults ≡ (g.F.Files.folder l.fn.files).faults;
}
