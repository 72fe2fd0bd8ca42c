use Rattle.std.proofs.Common.{◌≡◌, ◌-◌, map, take, drop, length}
use Rattle.bb_tree.specs.Node.{forest}
use Rattle.bb_tree.specs.NodeViews.{branch_of}
use Rattle.bb_tree.specs.Blob.{has_name, prop_names}
use Rattle.bb_tree.specs.BlobLength.{names_under}
use Rattle.bb_tree.proofs.blob.+is_before.Given as goal

-- the name isn't among those so far
abbrev pub invariant-loop-child : goal.invariant-loop-child
invariant-loop-child l =
    (has_name (take l.left (prop_names (forest (map branch_of (drop l.child-index l.child-items))))) l.name ≡ has_name (take l.fn.left (names_under (branch_of l.node))) l.name)
    × (l.left - length (prop_names (forest (map branch_of (drop l.child-index l.child-items)))) ≡ l.fn.left - length (names_under (branch_of l.node)))
