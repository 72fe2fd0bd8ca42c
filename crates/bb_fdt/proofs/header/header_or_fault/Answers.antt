use Rattle.std.proofs.Common.{rules}
use Rattle.bb_fdt.proofs.header.header_or_fault.Goals as goal

pub returns-then-is_outside-2 : goal.returns-then-is_outside-2
returns-then-is_outside-2 c = search rules
