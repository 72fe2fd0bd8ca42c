use Rattle.std.proofs.Common.{rules}
use Rattle.bb_tree.proofs.taken.take_phandle.Goals as goal

pub take_number-requires : goal.take_number-requires
take_number-requires c = search rules

pub returns : goal.returns
returns c = search rules
