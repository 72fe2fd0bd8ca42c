use Rattle.std.proofs.Common.{rules}
use Rattle.bb_flash.proofs.mem_board.MemBoard.keep_start.Goals as goal

pub invariant_of-self-2 : goal.invariant_of-self-2
invariant_of-self-2 c = search rules

pub returns-clause-ok : goal.returns-clause-ok
returns-clause-ok c = search rules
