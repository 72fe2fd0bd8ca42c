use Rattle.std.proofs.Common.{◌≡◌, ◌+◌, map, take, drop}
use Rattle.bb_tree.specs.NodeViews.{prop_pair}
use Rattle.bb_tree.specs.Blob.{has_name}
use Rattle.bb_tree.proofs.blob.is_among.Given as goal

-- the name isn't among those so far
abbrev pub invariant-loop-prop : goal.invariant-loop-prop
invariant-loop-prop l =
    (has_name (take l.left (map (λ p. p.0) (map prop_pair (drop l.prop-index l.prop-items)))) l.name ≡ has_name (take l.fn.left (map (λ p. p.0) (map prop_pair l.props))) l.name)
    × (l.left + l.prop-index ≡ l.fn.left)
