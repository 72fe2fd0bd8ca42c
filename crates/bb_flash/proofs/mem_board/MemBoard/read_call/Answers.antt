use Rattle.std.proofs.Common.{rules}
use Rattle.bb_flash.proofs.mem_board.MemBoard.read_call.Goals as goal

pub returns-then-refuses-clause-answer : goal.returns-then-refuses-clause-answer
returns-then-refuses-clause-answer c = search rules

pub returns-then-refuses-clause-after : goal.returns-then-refuses-clause-after
returns-then-refuses-clause-after c = search rules
