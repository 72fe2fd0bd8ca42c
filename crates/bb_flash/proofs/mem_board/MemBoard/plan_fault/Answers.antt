use Rattle.std.proofs.Common.{rules}
use Rattle.bb_flash.proofs.mem_board.MemBoard.plan_fault.Goals as goal

pub returns-clause-ok : goal.returns-clause-ok
returns-clause-ok c = search rules
