use Rattle.std.proofs.Common.{arith}
use Rattle.std.proofs.lemmas.Grind.{common_steps}
use Rattle.bb_dts.proofs.StringLemmas.{quoted_bytes-none}
use Rattle.bb_dts.proofs.string.unescape.Goals as goal

pub returns : goal.returns
returns c =
    let none =
    quoted_bytes-none c.loop-rest.rest.now
    (grind (arith, common_steps, c.loop-rest-test.false, c.is_empty.ensures)) in
    grind (arith, common_steps)
