use Rattle.std.proofs.Common.{arith}
use Rattle.bb_hmac.proofs.Blocks.{block_of_long}
use Rattle.bb_hmac.proofs.PairBytes.{decoded, length_pair_bytes, pair_bytes}
use Rattle.bb_hmac.proofs.key.block_from.Goals as goal

pub returns-else-digits : goal.returns-else-digits
returns-else-digits c =
    let digits = c.args.digits.now in
    let e = decoded digits c.requires in
    let len = length_pair_bytes digits c.requires.even in
    rw (e, block_of_long (pair_bytes digits) (omega (arith, len))) (rw e at c.hashed_block.ensures)
