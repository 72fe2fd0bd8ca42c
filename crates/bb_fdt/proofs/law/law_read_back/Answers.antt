use Rattle.bb_fdt.proofs.Back.{read_back}
use Rattle.bb_fdt.proofs.law.law_read_back.Goals as goal

pub returns : goal.returns
returns c = read_back
