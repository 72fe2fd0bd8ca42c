use Rattle.std.proofs.Common.{◌≡◌, ◌-◌, length, map, take}
use Rattle.bb_tree.specs.NodeViews.{branches_of}
use Rattle.bb_tree.specs.Slots.{table_at}
use Rattle.bb_tree.specs.Known.{known_in}
use Rattle.bb_tree.proofs.Writing.{child_finished}
use Rattle.bb_tree.proofs.write.+node_of.Given as goal

abbrev pub decreases-node_of : goal.decreases-node_of
decreases-node_of l = length l.slots.now - l.k

abbrev pub invariant-loop-i : goal.invariant-loop-i
invariant-loop-i l = branches_of l.nodes ≡ map (child_finished (known_in l.slots l.labels) l.slots) (take l.i (table_at l.slots l.k))
