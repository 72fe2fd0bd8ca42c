use Rattle.std.proofs.Common.{rules}
use Rattle.bb_tool.proofs.send.status_unsent.Goals as goal

pub returns-in-NoMemory : goal.returns-in-NoMemory
returns-in-NoMemory c = search rules
