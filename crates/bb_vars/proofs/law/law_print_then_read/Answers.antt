use Rattle.bb_vars.proofs.Laws.{reads_back}
use Rattle.bb_vars.proofs.law.law_print_then_read.Goals as goal

pub returns : goal.returns
returns c = reads_back
