-- What a code that is fed in pieces has been fed.
use Rattle.std.specs.Prelude.{ℕ, List, ◌++◌}
use Rattle.sha2.specs.Hashers.{Holds256}
use Rattle.bb_hmac.specs.Hmac.{ipad, opad, masked_block}
use Rattle.bb_hmac.specs.declared.mac.Mac.{Mac}

-- it was started with this key, and these are all the bytes that it was fed
pub record HasFed (mac : Mac) (key fed : List ℕ) : Type 0 where
  pub inner : Holds256 mac.inner (masked_block ipad key ++ fed)
  pub outer : Holds256 mac.outer (masked_block opad key)
