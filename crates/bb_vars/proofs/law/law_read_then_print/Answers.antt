use Rattle.bb_vars.proofs.Laws.{prints_plain, read_sized}
use Rattle.bb_vars.proofs.law.law_read_then_print.Goals as goal

pub returns : goal.returns
returns c = record { printed = prints_plain; sized = read_sized }
