use Rattle.std.proofs.Common.{length}
use Rattle.bb_hmac.proofs.PairBytes.{HashedTo}
use Rattle.bb_hmac.proofs.key.hash_of.Given as goal

abbrev pub invariant-loop-rest : goal.invariant-loop-rest
invariant-loop-rest l = HashedTo l.hasher l.digits l.rest

abbrev pub decreases-loop-rest : goal.decreases-loop-rest
decreases-loop-rest l = length l.rest
