use Rattle.std.proofs.Common.{rules}
use Rattle.bb_base.proofs.mem_sink.MemSinkSink.write.Goals as goal

pub returns-then-refused-clause-counts : goal.returns-then-refused-clause-counts
returns-then-refused-clause-counts c = search rules

pub returns-then-refused-clause-kept : goal.returns-then-refused-clause-kept
returns-then-refused-clause-kept c = search rules
