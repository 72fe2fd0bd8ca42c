use Rattle.std.proofs.Common.{◌≡◌, ◌+◌, ◌<◌, ◌^◌, map, drop}
use Rattle.bb_tree.specs.Node.{forest, grow, empty}
use Rattle.bb_tree.specs.NodeViews.{branch_of}
use Rattle.bb_tree.specs.Blob.{length_in_64_bits}
use Rattle.bb_tree.specs.BlobLength.{nodes_length}
use Rattle.bb_tree.proofs.blob.+node_length.Given as goal

-- with the nodes that are left it is all of them
abbrev pub invariant-loop-child : goal.invariant-loop-child
invariant-loop-child l =
    (length_in_64_bits (l.sum + nodes_length (forest (map branch_of (drop l.child-index
    l.child-items)))) ≡ length_in_64_bits (nodes_length (grow (branch_of l.node) empty)))
    × (l.sum < 2 ^ 64)
