use Rattle.std.proofs.Common.{rules}
use Rattle.bb_vars.proofs.print.print_value.Goals as goal

pub returns-in-Chars-clause-printed : goal.returns-in-Chars-clause-printed
returns-in-Chars-clause-printed c = search rules
