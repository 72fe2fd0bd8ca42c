use Rattle.std.proofs.Common.{rules}
use Rattle.bb_bls.proofs.entry.entry_in.Goals as goal

pub returns-clause-ok : goal.returns-clause-ok
returns-clause-ok c = search rules
