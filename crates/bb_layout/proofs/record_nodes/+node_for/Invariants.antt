use Rattle.std.proofs.Common.{◌-◌, length}
use Rattle.bb_layout.proofs.record_nodes.+node_for.Given as goal

abbrev pub decreases-node_for : goal.decreases-node_for
decreases-node_for l = length l.path.now - l.depth
