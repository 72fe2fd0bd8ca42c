use Rattle.std.proofs.Common.{◌≡◌, fold, map, drop}
use Rattle.bb_tree.specs.NodeViews.{prop_pair}
use Rattle.bb_tree.specs.Blob.{with_name}
use Rattle.bb_fdt.proofs.names.Names.add_props.Given as goal

-- with the names of the properties that are left it is all of them
abbrev pub invariant-loop-prop : goal.invariant-loop-prop
invariant-loop-prop l = fold with_name l.self (map (λ p. p.0) (map prop_pair (drop l.prop-index l.prop-items))) ≡ fold with_name l.fn.self (map (λ p. p.0) (map prop_pair l.props))
