use Rattle.std.proofs.Common.{◌≡◌, map, drop}
use Rattle.std.specs.List.{find}
use Rattle.bb_tree.specs.Node.{forest, preorder_of}
use Rattle.bb_tree.specs.NodeViews.{branch_of}
use Rattle.bb_tree.specs.Phandle.{has_phandle, node_with}
use Rattle.bb_tree.proofs.find.+first_with.Given as goal

-- none so far has the phandle
abbrev pub invariant-loop-child : goal.invariant-loop-child
invariant-loop-child l =
    find (has_phandle l.phandle) (preorder_of (forest (map branch_of (drop l.child-index l.child-items)))) ≡ node_with l.phandle (branch_of l.node)
