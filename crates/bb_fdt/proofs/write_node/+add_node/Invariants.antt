use Rattle.std.proofs.Common.{◌≡◌, ◌++◌, map, drop}
use Rattle.std.specs.List.{flat_map}
use Rattle.bb_tree.specs.Node.{forest}
use Rattle.bb_tree.specs.NodeViews.{branch_of}
use Rattle.bb_tree.specs.Blob.{begin_text, prop_text, nodes_text, offset_of}
use Rattle.bb_fdt.proofs.write_node.+add_node.Given as goal

-- with the nodes that are left it is all of the node but its end
abbrev pub invariant-loop-child : goal.invariant-loop-child
invariant-loop-child l =
    l.bytes.items ++ nodes_text (offset_of l.names) (forest (map branch_of (drop l.child-index l.child-items)))
    ≡ l.fn.bytes.items ++ (begin_text (branch_of l.node).name
    ++ (flat_map (prop_text (offset_of l.names)) (branch_of l.node).props ++ nodes_text (offset_of l.names) (branch_of l.node).nodes))
