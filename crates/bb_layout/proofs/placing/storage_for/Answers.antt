use Rattle.std.proofs.Common.{rules}
use Rattle.bb_layout.proofs.placing.storage_for.Goals as goal

pub returns-then-geometry-eq0 : goal.returns-then-geometry-eq0
returns-then-geometry-eq0 c = search rules
