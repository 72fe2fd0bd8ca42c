use Rattle.std.proofs.Common.{rules}
use Rattle.bb_layout.proofs.placing.check_place.Goals as goal

pub returns : goal.returns
returns c = search rules
