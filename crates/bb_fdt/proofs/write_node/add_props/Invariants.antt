use Rattle.std.proofs.Common.{◌≡◌, ◌++◌, map, drop}
use Rattle.std.specs.List.{flat_map}
use Rattle.bb_tree.specs.NodeViews.{prop_pair}
use Rattle.bb_tree.specs.Blob.{prop_text, offset_of}
use Rattle.bb_fdt.proofs.write_node.add_props.Given as goal

-- with the properties that are left it is all of them
abbrev pub invariant-loop-prop : goal.invariant-loop-prop
invariant-loop-prop l =
    l.bytes.items ++ flat_map (prop_text (offset_of l.names)) (map prop_pair (drop l.prop-index l.prop-items))
    ≡ l.fn.bytes.items ++ flat_map (prop_text (offset_of l.names)) (map prop_pair l.props)
