use Rattle.std.proofs.Common.{rules}
use Rattle.bb_plan.proofs.described.read_tree.Goals as goal

pub returns-then-starts_with-clause-read : goal.returns-then-starts_with-clause-read
returns-then-starts_with-clause-read c = search rules

pub returns-then-starts_with-clause-tellable : goal.returns-then-starts_with-clause-tellable
returns-then-starts_with-clause-tellable c = search rules

pub returns-clause-read : goal.returns-clause-read
returns-clause-read c = search rules

pub returns-clause-tellable : goal.returns-clause-tellable
returns-clause-tellable c = search rules
