use Rattle.std.proofs.Common.{◌≡◌, ◌+◌, true, false, ℕ, List, map, take, drop, sym, ap, ◌∙◌, arith}
use Rattle.std.specs.Str.{bytes_eq}
use Rattle.bb_tree.specs.NodeViews.{prop_pair}
use Rattle.bb_tree.specs.Blob.{has_name}
use Rattle.bb_tree.proofs.Lengths.{props_turn, among_here, among_behind}
use Rattle.bb_tree.proofs.blob.is_among.Goals as goal

pub returns-then-eq-clause-found : goal.returns-then-eq-clause-found
returns-then-eq-clause-found c =
    let name = c.args.name.now in
    let items = c.as_slice-prop-items.result.now in
    let x = c.prop-item.result in
    let left = c.loop-prop.left in
    let rest = map (λ (p : List ℕ × List ℕ). p.0) (map prop_pair (drop (c.loop-prop.prop-index + 1) items)) in
    let turn = props_turn items c.loop-prop.prop-index x (omega arith) c.prop-item.is in
    let test : bytes_eq name x.name ≡ true = ap (bytes_eq name) (sym c.as_str.ensures) ∙ sym c.if-eq.ensures in
    sym (ap (λ l. has_name (take left l) name) turn ∙ among_here left name x.name rest (omega arith) test) ∙ c.loop-prop.invariant.0

pub loop-prop-preserved : goal.loop-prop-preserved
loop-prop-preserved c =
    let name = c.args.name.now in
    let items = c.as_slice-prop-items.result.now in
    let x = c.prop-item.result in
    let left = c.loop-prop.left in
    let rest = map (λ (p : List ℕ × List ℕ). p.0) (map prop_pair (drop (c.loop-prop.prop-index + 1) items)) in
    let turn = props_turn items c.loop-prop.prop-index x (omega arith) c.prop-item.is in
    let test : bytes_eq name x.name ≡ false = ap (bytes_eq name) (sym c.as_str.ensures) ∙ sym c.if-eq.ensures in
    let behind = sym (ap (λ l. has_name (take left l) name) turn ∙ among_behind left name x.name rest (omega arith) test) in
    (behind ∙ c.loop-prop.invariant.0, omega arith)
