use Rattle.std.proofs.Common.{◌≡◌, ◌+◌, ℕ, List, map, drop, length, ap, arith, length-append}
use Rattle.bb_tree.specs.declared.node.Node.TheViews.{out-Node}
use Rattle.bb_tree.specs.Node.{forest}
use Rattle.bb_tree.specs.NodeViews.{branch_of, branches_of, prop_pair}
use Rattle.bb_tree.specs.Blob.{prop_names}
use Rattle.bb_tree.specs.BlobLength.{names_under}
use Rattle.bb_tree.proofs.Lengths.{own_out, items_out, own_count, names_turn, child_shorter, piece_front, piece_behind, piece_sum}
use Rattle.bb_tree.proofs.blob.+strings_length.Goals as goal

pub own_length-sum-requires : goal.own_length-sum-requires
own_length-sum-requires t c =
    let node = c.args.node.now in
    let own = map (λ (p : List ℕ × List ℕ). p.0) (map prop_pair (out-Node node).props) in
    let rest = prop_names (forest (branches_of (out-Node node).nodes)) in
    record {
      stands = piece_front c.args.place.now (names_under (branch_of node)) own rest (names_under (branch_of c.args.root.now)) (own_out node) c.requires.stands;
      fits = omega (arith, own_count node, length-append own rest, ap length (own_out node), c.requires.fits);
    }

pub loop-child-init : goal.loop-child-init
loop-child-init t c =
    let node = c.args.node.now in
    let all = names_under (branch_of c.args.root.now) in
    let items = c.deref-child-items.result.now in
    let own = map (λ (p : List ℕ × List ℕ). p.0) (map prop_pair (out-Node node).props) in
    let rest = prop_names (forest (map branch_of items)) in
    let place = c.args.place.now in
    let behind = c.own_length-sum.new.place in
    let is_whole = items_out node items c.deref-child-items.ensures.value in
    let is_behind : behind ≡ place + length own = omega (arith, own_count node, c.own_length-sum.ensures.place) in
    let sum = piece_sum place behind (names_under (branch_of node)) own rest all is_whole c.requires.stands is_behind in
    let part = c.own_length-sum.ensures.sum in (
      omega (arith, sum, part),
      piece_behind place behind (names_under (branch_of node)) own rest all is_whole c.requires.stands is_behind,
      omega (arith, is_behind, length-append own rest, ap length is_whole),
      omega (arith, part),
    )

pub strings_length-requires : goal.strings_length-requires
strings_length-requires t c =
    let all = names_under (branch_of c.args.root.now) in
    let items = c.deref-child-items.result.now in
    let x = c.child-item.result in
    let shorter = child_shorter c.args.node.now items c.loop-child.child-index x c.deref-child-items.ensures.value (omega arith) c.child-item.is in
    let turn = names_turn items c.loop-child.child-index x (omega arith) c.child-item.is in
    let rest = prop_names (forest (map branch_of (drop (c.loop-child.child-index + 1) items))) in
    let whole = prop_names (forest (map branch_of (drop c.loop-child.child-index items))) in (
      omega (arith, c.decreases, shorter),
      (
        piece_front c.loop-child.place whole (names_under (branch_of x)) rest all turn c.loop-child.invariant.1,
        omega (arith, ap length turn, length-append (names_under (branch_of x)) rest, c.loop-child.invariant.2, c.requires.fits),
      ),
    )

pub loop-child-preserved : goal.loop-child-preserved
loop-child-preserved t c =
    let all = names_under (branch_of c.args.root.now) in
    let items = c.deref-child-items.result.now in
    let x = c.child-item.result in
    let place = c.loop-child.place in
    let behind = c.strings_length.new.place in
    let turn = names_turn items c.loop-child.child-index x (omega arith) c.child-item.is in
    let rest = prop_names (forest (map branch_of (drop (c.loop-child.child-index + 1) items))) in
    let whole = prop_names (forest (map branch_of (drop c.loop-child.child-index items))) in
    let is_behind = c.strings_length.ensures.place in
    let sum = piece_sum place behind whole (names_under (branch_of x)) rest all turn c.loop-child.invariant.1 is_behind in
    let part = c.strings_length.ensures.sum in
    let saturated = c.saturating_add-sum.ensures in (
      omega (arith, sum, part, saturated, c.loop-child.invariant.0),
      piece_behind place behind whole (names_under (branch_of x)) rest all turn c.loop-child.invariant.1 is_behind,
      omega (arith, is_behind, ap length turn, length-append (names_under (branch_of x)) rest, c.loop-child.invariant.2),
      omega (arith, saturated),
    )
