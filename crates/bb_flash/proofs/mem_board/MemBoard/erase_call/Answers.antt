use Rattle.std.proofs.Common.{arith}
use Rattle.std.proofs.lemmas.Grind.{common_steps}
use Rattle.bb_flash.proofs.mem_board.MemBoard.erase_call.Goals as goal

pub returns-then-refuses-clause-answer : goal.returns-then-refuses-clause-answer
returns-then-refuses-clause-answer c = grind (arith, common_steps)

pub returns-then-refuses-clause-after : goal.returns-then-refuses-clause-after
returns-then-refuses-clause-after c = grind (arith, common_steps)

pub write_call-requires-clause-some : goal.write_call-requires-clause-some
write_call-requires-clause-some c = grind (arith, common_steps)

pub write_call-requires-clause-inside : goal.write_call-requires-clause-inside
write_call-requires-clause-inside c = grind (arith, common_steps)

pub write_call-requires-clause-room : goal.write_call-requires-clause-room
write_call-requires-clause-room c = grind (arith, common_steps)

pub returns-clause-answer : goal.returns-clause-answer
returns-clause-answer c = grind (arith, common_steps)

pub returns-clause-after : goal.returns-clause-after
returns-clause-after c = grind (arith, common_steps)
