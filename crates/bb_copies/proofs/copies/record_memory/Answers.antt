use Rattle.std.proofs.Common.{arith, length}
use Rattle.bb_copies.proofs.Rooms.{mounted_holds}
use Rattle.bb_copies.proofs.copies.record_memory.Goals as goal

pub returns : goal.returns
returns g c = λ form most room exchange.
    mounted_holds g.B.Bucket.holding c.args.buckets.now.items form most c.record_len-len.result (length c.in_ok-rec.rec.items) c.requires c.record_len-len.ensures (grind arith) room exchange
