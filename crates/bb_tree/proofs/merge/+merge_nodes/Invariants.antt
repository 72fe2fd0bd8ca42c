use Rattle.std.proofs.Common.{◌≡◌, ◌++◌, map}
use Rattle.bb_tree.specs.declared.draft_node.DraftNode.TheViews.{out-DraftNodeList}
use Rattle.bb_tree.specs.DraftViews.{draft_of}
use Rattle.bb_tree.specs.Slots.{Changes, with_nodes}
use Rattle.bb_tree.proofs.merge.+merge_nodes.Given as goal

-- the nodes so far are merged into the node
abbrev pub invariant-loop-child : goal.invariant-loop-child
invariant-loop-child l = record {
  split : l.yielded ++ l.child-iterator.rest.items ≡ (out-DraftNodeList l.fn.nodes).inner.items;
  changes : Changes l.k (with_nodes (map draft_of l.yielded)) l.fn.slots.items l.slots.items;
}
