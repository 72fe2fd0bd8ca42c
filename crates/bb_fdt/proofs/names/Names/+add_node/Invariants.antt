use Rattle.std.proofs.Common.{◌≡◌, fold, map, drop}
use Rattle.bb_tree.specs.Node.{forest, grow, empty}
use Rattle.bb_tree.specs.NodeViews.{branch_of}
use Rattle.bb_tree.specs.Blob.{with_name, prop_names}
use Rattle.bb_fdt.proofs.names.Names.+add_node.Given as goal

-- with the names in the nodes that are left it is all of them
abbrev pub invariant-loop-child : goal.invariant-loop-child
invariant-loop-child l = fold with_name l.self (prop_names (forest (map branch_of (drop l.child-index l.child-items)))) ≡ fold with_name l.fn.self (prop_names (grow (branch_of l.node) empty))
