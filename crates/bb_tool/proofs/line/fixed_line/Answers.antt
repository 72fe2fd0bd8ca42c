use Rattle.std.proofs.Common.{rules}
use Rattle.bb_tool.proofs.line.fixed_line.Goals as goal

pub returns-in-NoGood-clause-line : goal.returns-in-NoGood-clause-line
returns-in-NoGood-clause-line c = search rules

pub returns-in-NoGood-clause-made : goal.returns-in-NoGood-clause-made
returns-in-NoGood-clause-made c = search rules
