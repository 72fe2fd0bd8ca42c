use Rattle.std.proofs.Common.{rules}
use Rattle.bb_chooser.proofs.chooser.Chooser.resets.Goals as goal

pub returns : goal.returns
returns c = search rules
