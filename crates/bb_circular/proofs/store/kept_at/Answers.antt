use Rattle.std.proofs.Common.{rules}
use Rattle.bb_circular.proofs.store.kept_at.Goals as goal

pub returns : goal.returns
returns c = search rules
