use Rattle.bb_hmac.proofs.Blocks.{hmac_of_block}
use Rattle.bb_hmac.proofs.law.law_block_stands_for_key.Goals as goal

pub returns : goal.returns
returns c = hmac_of_block
