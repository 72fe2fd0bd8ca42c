use Rattle.std.proofs.Common.{rules}
use Rattle.bb_chooser.proofs.chooser.Chooser.chosen_target.Goals as goal

pub returns-then-place-eq0 : goal.returns-then-place-eq0
returns-then-place-eq0 c = search rules

pub returns-then-place-len : goal.returns-then-place-len
returns-then-place-len c = search rules

pub returns : goal.returns
returns c = search rules
