use Rattle.std.proofs.Common.{rules}
use Rattle.bb_tree.proofs.blob.name_length.Goals as goal

pub returns : goal.returns
returns c = search rules
