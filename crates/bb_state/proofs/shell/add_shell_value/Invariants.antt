use Rattle.std.proofs.Common.{◌≡◌, ◌++◌, take}
use Rattle.bb_state.specs.Lines.{shell_value}
use Rattle.bb_state.proofs.shell.add_shell_value.Given as goal

-- the characters so far are added
abbrev pub invariant-loop-c : goal.invariant-loop-c
invariant-loop-c l = l.out ≡ l.fn.out ++ shell_value (take l.c-index l.value)
