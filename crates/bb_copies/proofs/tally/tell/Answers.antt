use Rattle.std.proofs.Common.{rules}
use Rattle.bb_copies.proofs.tally.tell.Goals as goal

pub returns-clause-used : goal.returns-clause-used
returns-clause-used c = search rules

pub returns-clause-live : goal.returns-clause-live
returns-clause-live c = search rules
