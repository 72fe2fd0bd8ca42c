use Rattle.std.proofs.Common.{rules}
use Rattle.bb_fdt.proofs.write.structure_bytes.Goals as goal

pub returns : goal.returns
returns c = search rules
