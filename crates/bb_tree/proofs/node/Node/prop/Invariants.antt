use Rattle.std.proofs.Common.{◌≡◌, map, drop}
use Rattle.std.specs.Map.{lookup}
use Rattle.std.specs.Str.{bytes_eq}
use Rattle.bb_tree.specs.NodeViews.{branch_of}
use Rattle.bb_tree.specs.Paths.{prop_of}
use Rattle.bb_tree.proofs.Nodes.{pair}
use Rattle.bb_tree.proofs.node.Node.prop.Given as goal

-- none so far has the name
abbrev pub invariant-loop-prop : goal.invariant-loop-prop
invariant-loop-prop l = lookup (bytes_eq l.name) (map pair (drop l.prop-index l.prop-items)) ≡ prop_of l.name (branch_of l.self)
