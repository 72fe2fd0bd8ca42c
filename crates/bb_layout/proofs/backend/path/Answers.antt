use Rattle.std.proofs.Common.{rules}
use Rattle.bb_layout.proofs.backend.path.Goals as goal

pub returns : goal.returns
returns c = search rules
