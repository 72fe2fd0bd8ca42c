use Rattle.std.proofs.Common.{◌≡◌, map, drop}
use Rattle.bb_tree.specs.Node.{forest}
use Rattle.bb_tree.specs.NodeViews.{branch_of, branches_of}
use Rattle.bb_tree.specs.Paths.{child_of}
use Rattle.bb_tree.proofs.find.child_named.Given as goal

-- none so far has the name
abbrev pub invariant-loop-node : goal.invariant-loop-node
invariant-loop-node l = child_of l.name (forest (map branch_of (drop l.node-index l.node-items))) ≡ child_of l.name (forest (branches_of l.nodes))
