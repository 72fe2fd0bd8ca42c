use Rattle.std.proofs.Common.{rules}
use Rattle.bb_flash.proofs.mem_board.MemBoard.refuses.Goals as goal

pub returns-else-self-most_calls-clause-value : goal.returns-else-self-most_calls-clause-value
returns-else-self-most_calls-clause-value c = search rules
