use Rattle.std.proofs.Common.{rules}
use Rattle.bb_flash.proofs.mem_board.MemBoard.next_fault.Goals as goal

pub returns : goal.returns
returns c = search rules
