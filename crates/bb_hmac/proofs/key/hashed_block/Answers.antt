use Rattle.std.proofs.Common.{refl}
use Rattle.bb_hmac.proofs.Blocks.{filled_hash}
use Rattle.bb_hmac.proofs.PairBytes.{decoded, pair_bytes}
use Rattle.bb_hmac.proofs.key.hashed_block.Goals as goal

pub returns : goal.returns
returns c =
    let e = decoded c.args.digits.now c.requires in
    let hash = rw e at c.hash_of.ensures in
    let copied = c.copy_from_slice.ensures.after in
    rw (e, filled_hash (pair_bytes c.args.digits.now), copied, hash) refl
