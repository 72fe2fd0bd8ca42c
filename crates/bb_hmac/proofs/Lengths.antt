-- The length of a code.
use Rattle.std.proofs.Common.{◌≡◌, ℕ, List, ◌++◌, length}
use Rattle.sha2.proofs.Facts256.{length-sha256}
use Rattle.sha2.specs.Sha256.{sha256}
use Rattle.bb_hmac.specs.Hmac.{hmac_of, ipad, masked_block, opad}

pub length_hmac_of : (key text : List ℕ) → length (hmac_of key text) ≡ 32
length_hmac_of key text = length-sha256 (masked_block opad key ++ sha256 (masked_block ipad key ++ text))
