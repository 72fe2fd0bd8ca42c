use Rattle.std.proofs.Common.{rules}
use Rattle.bb_copies.proofs.copies.Copies.mount.Goals as goal

pub returns-clause-sure : goal.returns-clause-sure
returns-clause-sure g c = search rules
