use Rattle.std.proofs.Common.{rules}
use Rattle.bb_vars.proofs.read.read_chars.Goals as goal

pub returns-in_err-check_chars-clause-unchanged : goal.returns-in_err-check_chars-clause-unchanged
returns-in_err-check_chars-clause-unchanged c = search rules
