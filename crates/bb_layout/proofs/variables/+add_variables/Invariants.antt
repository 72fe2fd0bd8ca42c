use Rattle.std.proofs.Common.{◌≡◌, drop, map}
use Rattle.bb_tree.specs.Node.{forest}
use Rattle.bb_tree.specs.NodeViews.{branch_of}
use Rattle.bb_layout.specs.Walk.{onto, variables_in, variables_below}
use Rattle.bb_layout.proofs.variables.+add_variables.Given as goal

abbrev pub decreases-add_variables : goal.decreases-add_variables
decreases-add_variables l = goal.size-add_variables l

-- what the children so far hold is taken
abbrev pub invariant-loop-child : goal.invariant-loop-child
invariant-loop-child l =
    onto l.vars (variables_in l.above (forest (map branch_of (drop l.child-index l.child-items)))) ≡ onto l.fn.vars (variables_below l.above (branch_of l.node))
