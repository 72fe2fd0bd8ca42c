use Rattle.std.proofs.Common.{◌≡◌, ◌+◌, ◌<◌, ◌^◌, map, drop}
use Rattle.bb_tree.specs.NodeViews.{prop_pair}
use Rattle.bb_tree.specs.Blob.{length_in_64_bits}
use Rattle.bb_tree.specs.BlobLength.{props_length}
use Rattle.bb_tree.proofs.blob.props_length.Given as goal

-- with the properties that are left it is all of them
abbrev pub invariant-loop-prop : goal.invariant-loop-prop
invariant-loop-prop l =
    (length_in_64_bits (l.sum + props_length (map prop_pair (drop l.prop-index l.prop-items)))
    ≡ length_in_64_bits (props_length (map prop_pair l.props))) × (l.sum < 2 ^ 64)
