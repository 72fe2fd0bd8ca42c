use Rattle.std.proofs.Common.{◌≡◌, ◌+◌, ◌∷◌, [], ℕ, List, map, take, drop, length, cond, ap, ◌∙◌, arith}
use Rattle.bb_tree.specs.NodeViews.{branch_of, prop_pair}
use Rattle.bb_tree.specs.Blob.{has_name}
use Rattle.bb_tree.specs.BlobLength.{names_under, strings_growth}
use Rattle.bb_tree.proofs.Lengths.{props_turn, piece_behind, piece_sum}
use Rattle.bb_tree.proofs.blob.own_length.Goals as goal

pub loop-prop-preserved : goal.loop-prop-preserved
loop-prop-preserved c =
    let all = names_under (branch_of c.args.root.now) in
    let items = c.as_slice-prop-items.result.now in
    let x = c.prop-item.result in
    let place = c.loop-prop.place in
    let names = λ (i : ℕ). map (λ (p : List ℕ × List ℕ). p.0) (map prop_pair (drop i items)) in
    let turn = props_turn items c.loop-prop.prop-index x (omega arith) c.prop-item.is in
    let stand = c.loop-prop.invariant.1 in
    let sum = piece_sum place (place + 1) (names c.loop-prop.prop-index) (x.name
    ∷ []) (names (c.loop-prop.prop-index + 1)) all turn stand (omega arith) in
    let one : c.name_length.result ≡ strings_growth (take place all) (x.name ∷ []) =
    c.name_length.ensures
    ∙ ap (λ (n : List ℕ). cond (has_name (take place all) n) 0 (length n + 1)) c.as_str.ensures
    ∙ omega arith in
    let saturated = c.saturating_add-sum.ensures in
    let before = c.loop-prop.invariant.0 in (
      omega (arith, sum, one, saturated, before),
      piece_behind place (place + 1) (names c.loop-prop.prop-index) (x.name ∷ [])
          (names (c.loop-prop.prop-index + 1)) all turn stand (omega arith),
      omega arith,
      omega (arith, saturated),
    )
