use Rattle.std.proofs.Common.{◌≡◌, take}
use Rattle.bb_tree.specs.NodeViews.{branches_of}
use Rattle.bb_layout.specs.Record.{grown_of}
use Rattle.bb_layout.proofs.record_nodes.nodes_of.Given as goal

-- the nodes of the variables so far
abbrev pub invariant-loop-place : goal.invariant-loop-place
invariant-loop-place l = branches_of l.nodes ≡ (grown_of l.area (take l.place l.vars)).nodes
