use Rattle.bb_circular.proofs.Wearing.{wears_little}
use Rattle.bb_tool.proofs.law.law_wear.Goals as goal

pub returns : goal.returns
returns c = wears_little
