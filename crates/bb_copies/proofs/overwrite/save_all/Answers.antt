use Rattle.std.proofs.Common.{rules}
use Rattle.bb_copies.proofs.overwrite.save_all.Goals as goal

pub returns-in-Some-clause-spares : goal.returns-in-Some-clause-spares
returns-in-Some-clause-spares g c = search rules

pub returns-in-Some-clause-fails : goal.returns-in-Some-clause-fails
returns-in-Some-clause-fails g c = search rules
