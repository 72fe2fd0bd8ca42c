use Rattle.std.proofs.Common.{◌≡◌, ◌≤◌, length}
use Rattle.bb_fdt.specs.Walk.{Inside, open_node}
use Rattle.bb_fdt.specs.Descent.{walk_from, open_of}
use Rattle.bb_fdt.proofs.node.+read_node.Given as goal

abbrev pub decreases-read_node : goal.decreases-read_node
decreases-read_node l = length l.text.now

-- the walk from the node's beginning is the walk from here, with what is read of it
abbrev pub invariant-loop-nodes : goal.invariant-loop-nodes
invariant-loop-nodes l =
    (walk_from l.input.strings.now l.input.end (Inside (open_node l.level l.name)) l.text
    ≡ walk_from l.input.strings.now l.input.end
    (Inside (open_of l.level l.name l.props l.nodes)) l.rest)
    × (length l.rest ≤ length l.text)

abbrev pub decreases-loop-nodes : goal.decreases-loop-nodes
decreases-loop-nodes l = length l.rest
