use Rattle.std.proofs.Common.{◌≡◌, ◌+◌, ◌<◌, ◌^◌, map, take, drop}
use Rattle.bb_tree.specs.NodeViews.{branch_of, prop_pair}
use Rattle.bb_tree.specs.Blob.{length_in_64_bits}
use Rattle.bb_tree.specs.BlobLength.{names_under, strings_growth, StandAt}
use Rattle.bb_tree.proofs.blob.own_length.Given as goal

-- with the properties that are left it is all of them
abbrev pub invariant-loop-prop : goal.invariant-loop-prop
invariant-loop-prop l =
    (length_in_64_bits (l.sum + strings_growth (take l.place (names_under (branch_of l.root))) (map
    (λ p. p.0) (map prop_pair (drop l.prop-index l.prop-items))))
    ≡ length_in_64_bits (strings_growth (take l.fn.place (names_under (branch_of l.root))) (map
    (λ p. p.0) (map prop_pair l.props))))
    × StandAt l.place (map (λ p. p.0) (map prop_pair (drop l.prop-index l.prop-items)))
    (names_under (branch_of l.root))
    × (l.place ≡ l.fn.place + l.prop-index)
    × (l.sum < 2 ^ 64)
