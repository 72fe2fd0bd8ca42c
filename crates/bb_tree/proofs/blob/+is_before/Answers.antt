use Rattle.std.proofs.Common.{◌≡◌, ◌+◌, ◌-◌, true, false, ℕ, List, map, take, drop, length, sym, ◌∙◌, arith}
use Rattle.bb_tree.specs.declared.node.Node.TheViews.{out-Node}
use Rattle.bb_tree.specs.Node.{forest}
use Rattle.bb_tree.specs.NodeViews.{branch_of, branches_of, prop_pair}
use Rattle.bb_tree.specs.Blob.{has_name, prop_names}
use Rattle.bb_tree.specs.BlobLength.{names_under}
use Rattle.bb_tree.proofs.Lengths.{front_has, behind_has, own_out, items_out, own_count, names_turn}
use Rattle.bb_tree.proofs.blob.+is_before.Goals as goal

pub returns-then-is_among-clause-found : goal.returns-then-is_among-clause-found
returns-then-is_among-clause-found t c =
    let node = c.args.node.now in
    let own = map (λ (p : List ℕ × List ℕ). p.0) (map prop_pair (out-Node node).props) in
    let has : has_name (take c.args.left.now own) c.args.name.now ≡ true = sym c.is_among.ensures.found ∙ c.if-is_among.true in
    sym (front_has c.args.left.now (names_under (branch_of node)) own (prop_names (forest (branches_of (out-Node node).nodes))) c.args.name.now (own_out node) has)

pub loop-child-init : goal.loop-child-init
loop-child-init t c =
    let node = c.args.node.now in
    let items = c.deref-child-items.result.now in
    let own = map (λ (p : List ℕ × List ℕ). p.0) (map prop_pair (out-Node node).props) in
    let hasnt : has_name (take c.args.left.now own) c.args.name.now ≡ false = sym c.is_among.ensures.found ∙ c.if-is_among.false in
    let left = c.is_among.ensures.left c.if-is_among.false in
    let is_left : c.is_among.new.left ≡ c.args.left.now - length own = omega (arith, left, own_count node) in
    behind_has c.args.left.now c.is_among.new.left (names_under (branch_of node)) own (prop_names (forest (map branch_of items))) c.args.name.now (items_out node items c.deref-child-items.ensures.value) hasnt is_left

pub returns-then-is_before-clause-found : goal.returns-then-is_before-clause-found
returns-then-is_before-clause-found t c =
    let items = c.deref-child-items.result.now in
    let x = c.child-item.result in
    let turn = names_turn items c.loop-child.child-index x (omega arith) c.child-item.is in
    let rest = prop_names (forest (map branch_of (drop (c.loop-child.child-index + 1) items))) in
    let whole = prop_names (forest (map branch_of (drop c.loop-child.child-index items))) in
    let has : has_name (take c.loop-child.left (names_under (branch_of x))) c.args.name.now ≡ true = sym c.is_before.ensures.found ∙ c.if-is_before.true in
    sym (front_has c.loop-child.left whole (names_under (branch_of x)) rest c.args.name.now turn has) ∙ c.loop-child.invariant.0

pub loop-child-preserved : goal.loop-child-preserved
loop-child-preserved t c =
    let items = c.deref-child-items.result.now in
    let x = c.child-item.result in
    let turn = names_turn items c.loop-child.child-index x (omega arith) c.child-item.is in
    let rest = prop_names (forest (map branch_of (drop (c.loop-child.child-index + 1) items))) in
    let whole = prop_names (forest (map branch_of (drop c.loop-child.child-index items))) in
    let hasnt : has_name (take c.loop-child.left (names_under (branch_of x))) c.args.name.now ≡ false = sym c.is_before.ensures.found ∙ c.if-is_before.false in
    let behind = behind_has c.loop-child.left c.is_before.new.left whole (names_under (branch_of x)) rest c.args.name.now turn hasnt (c.is_before.ensures.left c.if-is_before.false) in
    (behind.0 ∙ c.loop-child.invariant.0, behind.1 ∙ c.loop-child.invariant.1)
