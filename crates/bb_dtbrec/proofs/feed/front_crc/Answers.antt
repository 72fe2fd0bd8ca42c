use Rattle.std.proofs.Common.{List, ℕ, []}
use Rattle.bb_dtbrec.proofs.feed.front_crc.Goals as goal

pub returns : goal.returns
returns c =
    let front : List ℕ = c.args.front.now in
    c.feed-2.ensures front (c.feed.ensures [] c.start-crc.ensures)
