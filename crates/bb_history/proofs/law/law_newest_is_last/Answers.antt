use Rattle.bb_history.proofs.LastOnes.{newest_last}
use Rattle.bb_history.proofs.law.law_newest_is_last.Goals as goal

pub returns : goal.returns
returns c = newest_last
