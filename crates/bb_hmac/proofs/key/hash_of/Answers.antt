use Rattle.std.proofs.Common.{arith, rules}
use Rattle.bb_hmac.proofs.PairBytes.{cut, decoded, front_bytes, hashed_all, hashed_more, pair_bytes}
use Rattle.bb_hmac.proofs.key.hash_of.Goals as goal

pub write_bytes-requires : goal.write_bytes-requires
write_bytes-requires c =
    let parts = c.split_at.ensures in
    let is = cut c.loop-rest.rest.now _ _ _ c.min.ensures parts.front parts.back c.loop-rest.invariant.spelt in
    let room = is.room in
    record { spelt = is.spelt; room = omega arith }

pub loop-rest-preserved : goal.loop-rest-preserved
loop-rest-preserved c =
    let parts = c.split_at.ensures in
    let piece = c.split_at.result.0.now in
    let is = cut c.loop-rest.rest.now _ _ _ c.min.ensures parts.front parts.back c.loop-rest.invariant.spelt in
    let written = rw (decoded piece is.spelt) at c.write_bytes.ensures in
    let bytes = front_bytes piece _ _ is.even written in
    hashed_more c.loop-rest.hasher c.update.new.self c.args.digits.now piece c.split_at.result.1.now
    (rw is.whole c.loop-rest.invariant) is.even (λ m h. rw bytes at (c.update.ensures m h))

pub returns : goal.returns
returns c =
    let holds = hashed_all c.loop-rest.hasher c.args.digits.now c.loop-rest.rest.now (search rules) c.loop-rest.invariant in
    rw (decoded c.args.digits.now c.requires) (c.finalize.ensures (pair_bytes c.args.digits.now) holds)
