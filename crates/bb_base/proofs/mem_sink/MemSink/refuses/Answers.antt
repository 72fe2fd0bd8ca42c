use Rattle.std.proofs.Common.{rules}
use Rattle.bb_base.proofs.mem_sink.MemSink.refuses.Goals as goal

pub returns-then-is_planned : goal.returns-then-is_planned
returns-then-is_planned c = search rules

pub returns-else-is_planned : goal.returns-else-is_planned
returns-else-is_planned c = search rules
