use Rattle.std.proofs.Common.{arith}
use Rattle.std.proofs.lemmas.Grind.{common_steps}
use Rattle.bb_state.proofs.lines.add_shell_line.Goals as goal

pub returns : goal.returns
returns c = grind (arith, common_steps)
