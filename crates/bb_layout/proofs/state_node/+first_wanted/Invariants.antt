use Rattle.std.proofs.Common.{◌≡◌, map, drop}
use Rattle.std.specs.List.{find}
use Rattle.std.specs.Option.{option_copied}
use Rattle.bb_tree.specs.Node.{forest, preorder, preorder_of}
use Rattle.bb_tree.specs.NodeViews.{branch_of}
use Rattle.bb_layout.specs.StateNode.{is_wanted}
use Rattle.bb_layout.proofs.state_node.+first_wanted.Given as goal

-- none so far is wanted
abbrev pub invariant-loop-child : goal.invariant-loop-child
invariant-loop-child l =
    find (is_wanted (option_copied l.name)) (preorder_of (forest (map branch_of (drop l.child-index l.child-items))))
    ≡ find (is_wanted (option_copied l.name)) (preorder (branch_of l.node))
