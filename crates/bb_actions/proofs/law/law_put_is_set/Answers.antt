use Rattle.bb_actions.proofs.Values.{put_is_set}
use Rattle.bb_actions.proofs.law.law_put_is_set.Goals as goal

pub returns : goal.returns
returns c = put_is_set
