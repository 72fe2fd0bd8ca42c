use Rattle.std.proofs.Common.{◌≡◌, take}
use Rattle.std.specs.List.{flat_map}
use Rattle.bb_script_commands.specs.Sending.{counts_line_of}
use Rattle.bb_script_commands.proofs.show.counts_lines.Given as goal

-- the lines so far are there
abbrev pub invariant-loop-target : goal.invariant-loop-target
invariant-loop-target l = l.text ≡ flat_map (counts_line_of l.table) (take l.target l.chooser.targets)
