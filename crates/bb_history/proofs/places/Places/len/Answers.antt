use Rattle.std.proofs.Common.{arith}
use Rattle.bb_history.proofs.Backwards.{as_long}
use Rattle.bb_history.proofs.places.Places.len.Goals as goal

pub returns : goal.returns
returns c =
    let long = as_long c.self.inside.found.items _ c.self.view_is in
    omega (arith, long, c.len.ensures, c.self.inside.found.ok)
