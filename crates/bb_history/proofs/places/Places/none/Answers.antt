use Rattle.std.proofs.Common.{ap, reverse}
use Rattle.bb_history.proofs.places.Places.none.Goals as goal

pub returns : goal.returns
returns c = ap reverse c.new.ensures.items
