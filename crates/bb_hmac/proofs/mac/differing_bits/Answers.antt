use Rattle.std.proofs.Common.{arith}
use Rattle.bb_hmac.proofs.Differences.{differing_step}
use Rattle.bb_hmac.proofs.mac.differing_bits.Goals as goal

pub loop-i-preserved : goal.loop-i-preserved
loop-i-preserved c =
    differing_step c.loop-i.differing c.loop-i.i c.args.mac.now c.args.bytes.now (omega arith) (omega arith) c.loop-i.invariant
