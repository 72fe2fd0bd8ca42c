use Rattle.std.proofs.Common.{rules}
use Rattle.bb_layout.proofs.state_node.node_by_alias.Goals as goal

pub returns : goal.returns
returns c = search rules
