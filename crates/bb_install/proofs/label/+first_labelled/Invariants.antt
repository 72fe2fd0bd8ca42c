use Rattle.std.proofs.Common.{◌≡◌, map, drop}
use Rattle.std.specs.List.{find}
use Rattle.bb_tree.specs.Node.{forest, preorder, preorder_of}
use Rattle.bb_tree.specs.NodeViews.{branch_of}
use Rattle.bb_install.specs.Slot.{has_label}
use Rattle.bb_install.proofs.label.+first_labelled.Given as goal

-- none so far has the label
abbrev pub invariant-loop-child : goal.invariant-loop-child
invariant-loop-child l =
    find (has_label l.label) (preorder_of (forest (map branch_of (drop l.child-index l.child-items))))
    ≡ find (has_label l.label) (preorder (branch_of l.node))
