use Rattle.bb_hmac.proofs.Blocks.{filled_from}
use Rattle.bb_hmac.proofs.PairBytes.{decoded}
use Rattle.bb_hmac.proofs.key.filled_block.Goals as goal

pub returns : goal.returns
returns c =
    let e = decoded c.args.digits.now c.requires.spelt in
    rw e (filled_from _ _ (rw e at c.write_bytes.ensures))
