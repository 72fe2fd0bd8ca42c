use Rattle.std.proofs.Common.{rules}
use Rattle.bb_tree.proofs.phandle.phandle_in.Goals as goal

pub returns-in_default : goal.returns-in_default
returns-in_default c = search rules

pub returns-in_default-2 : goal.returns-in_default-2
returns-in_default-2 c = search rules

pub returns-then-phandle-eq0 : goal.returns-then-phandle-eq0
returns-then-phandle-eq0 c = search rules

pub returns : goal.returns
returns c = search rules
