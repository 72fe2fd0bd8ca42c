use Rattle.std.proofs.Common.{rules}
use Rattle.bb_base.proofs.mem_files.MemFiles.is_refused.Goals as goal

pub returns-then-refused-clause-kept : goal.returns-then-refused-clause-kept
returns-then-refused-clause-kept c = search rules
