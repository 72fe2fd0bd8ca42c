use Rattle.std.proofs.Common.{◌≡◌, ◌+◌, ℕ, List, Bool, true, false, Some, None, cond, map, drop, sym, ap, ◌∙◌, arith}
use Rattle.std.specs.List.{find}
use Rattle.std.specs.Option.{option_map, option_copied}
use Rattle.bb_tree.specs.declared.node.Node.{Node}
use Rattle.bb_tree.specs.declared.node.Node.TheViews.{out-Node}
use Rattle.bb_tree.specs.Node.{Branch, forest, preorder, preorder_of}
use Rattle.bb_tree.specs.NodeViews.{branch_of}
use Rattle.bb_tree.proofs.Changing.{not_some}
use Rattle.bb_tree.proofs.Nodes.{branches_of_out, branch_of_out, past_all, find_turn, first_some}
use Rattle.bb_install.specs.Slot.{has_label}
use Rattle.bb_install.proofs.label.+first_labelled.Goals as goal

pub loop-child-init : goal.loop-child-init
loop-child-init t c =
    let p = has_label c.args.label.now in
    let node = c.args.node.now in
    let none : p (branch_of node) ≡ false = sym c.has_label.ensures ∙ c.if-has_label.false in
    ap (λ (l : List Node). find p (preorder_of (forest (map branch_of l)))) c.deref-child-items.ensures.value
    ∙ ap (λ (l : List (Branch (List ℕ))). find p (preorder_of (forest l))) (sym (branches_of_out (out-Node node).nodes))
    ∙ ap (λ (b : Branch (List ℕ)). find p (preorder_of b.nodes)) (sym (branch_of_out node))
    ∙ sym (ap (λ (b : Bool). cond b (Some (branch_of node)) (find p (preorder_of (branch_of node).nodes))) none)

pub returns-then-has_label : goal.returns-then-has_label
returns-then-has_label t c =
    let p = has_label c.args.label.now in
    let node = c.args.node.now in
    let there : p (branch_of node) ≡ true = sym c.has_label.ensures ∙ c.if-has_label.true in
    sym (ap (λ (b : Bool). cond b (Some (branch_of node)) (find p (preorder_of (branch_of node).nodes))) there)

pub returns-in-Some : goal.returns-in-Some
returns-in-Some t c =
    let p = has_label c.args.label.now in
    let items = c.deref-child-items.result.now in
    let turn = find_turn p items c.loop-child.child-index c.child-item.result (omega arith) c.child-item.is in
    let rest = find p (preorder_of (forest (map branch_of (drop (c.loop-child.child-index + 1) items)))) in
    let got : find p (preorder (branch_of c.child-item.result)) ≡ Some (branch_of c.in-Some.found.now) = sym c.first_labelled.ensures ∙ ap (λ o. option_map branch_of (option_copied o)) c.in-Some.is in
    sym (ap (λ o. first_some o rest) got) ∙ sym turn ∙ c.loop-child.invariant

pub loop-child-preserved : goal.loop-child-preserved
loop-child-preserved t c =
    let p = has_label c.args.label.now in
    let items = c.deref-child-items.result.now in
    let turn = find_turn p items c.loop-child.child-index c.child-item.result (omega arith) c.child-item.is in
    let rest = find p (preorder_of (forest (map branch_of (drop (c.loop-child.child-index + 1) items)))) in
    let none : c.first_labelled.result ≡ None = not_some c.first_labelled.result c.in_default.not-Some in
    let got : find p (preorder (branch_of c.child-item.result)) ≡ None = sym c.first_labelled.ensures ∙ ap (λ o. option_map branch_of (option_copied o)) none in
    sym (ap (λ o. first_some o rest) got) ∙ sym turn ∙ c.loop-child.invariant

pub returns : goal.returns
returns t c =
    let p = has_label c.args.label.now in
    let items = c.deref-child-items.result.now in
    sym (ap (λ (l : List Node). find p (preorder_of (forest (map branch_of l)))) (past_all items c.loop-child.child-index (omega arith))) ∙ c.loop-child.invariant
