use Rattle.std.proofs.Common.{rules}
use Rattle.bb_vars.proofs.read.check_chars.Goals as goal

pub returns-then-contains-clause-refused : goal.returns-then-contains-clause-refused
returns-then-contains-clause-refused c = search rules

pub returns-clause-fits : goal.returns-clause-fits
returns-clause-fits c = search rules
