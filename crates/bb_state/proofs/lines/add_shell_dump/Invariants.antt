use Rattle.std.proofs.Common.{◌≡◌, ◌++◌, take}
use Rattle.std.specs.List.{flat_map}
use Rattle.bb_state.specs.Lines.{shell_line}
use Rattle.bb_state.proofs.lines.add_shell_dump.Given as goal

-- the lines so far are added
abbrev pub invariant-loop-place : goal.invariant-loop-place
invariant-loop-place l = l.out ≡ l.fn.out ++ flat_map (shell_line l.layout.name l.area) (take l.place l.layout.vars)
