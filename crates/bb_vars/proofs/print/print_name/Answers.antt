use Rattle.std.proofs.Common.{rules}
use Rattle.bb_vars.proofs.print.print_name.Goals as goal

pub returns-in-None-clause-printed : goal.returns-in-None-clause-printed
returns-in-None-clause-printed c = search rules
