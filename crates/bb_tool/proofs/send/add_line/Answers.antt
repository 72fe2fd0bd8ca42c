use Rattle.std.proofs.Common.{rules}
use Rattle.bb_tool.proofs.send.add_line.Goals as goal

pub returns : goal.returns
returns c = search rules
