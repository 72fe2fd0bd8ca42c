use Rattle.std.proofs.Common.{◌≡◌, ◌+◌, ◌<◌, ◌^◌, map, take, drop, length}
use Rattle.bb_tree.specs.Node.{forest, grow, empty}
use Rattle.bb_tree.specs.NodeViews.{branch_of}
use Rattle.bb_tree.specs.Blob.{length_in_64_bits, prop_names}
use Rattle.bb_tree.specs.BlobLength.{nodes_length, names_under, strings_growth, StandAt}
use Rattle.bb_tree.proofs.blob.+strings_length.Given as goal

-- with the nodes that are left it is all of them
abbrev pub invariant-loop-child : goal.invariant-loop-child
invariant-loop-child l =
    let all = names_under (branch_of l.root) in
    let left = prop_names (forest (map branch_of (drop l.child-index l.child-items))) in
    (length_in_64_bits (l.sum + strings_growth (take l.place all) left)
    ≡ length_in_64_bits (strings_growth (take l.fn.place all) (names_under (branch_of l.node))))
    × StandAt l.place left all
    × (l.place + length left ≡ l.fn.place + length (names_under (branch_of l.node)))
    × (l.sum < 2 ^ 64)

abbrev pub decreases-strings_length : goal.decreases-strings_length
decreases-strings_length l = nodes_length (grow (branch_of l.node.now) empty)
