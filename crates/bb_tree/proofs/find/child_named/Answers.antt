use Rattle.std.proofs.Common.{◌≡◌, ◌+◌, List, Bool, true, false, Some, cond, map, drop, sym, ap, ◌∙◌, arith}
use Rattle.std.specs.Str.{bytes_eq}
use Rattle.bb_tree.specs.declared.node.Node.{Node}
use Rattle.bb_tree.specs.declared.node.Node.TheViews.{out-Node}
use Rattle.bb_tree.specs.Node.{forest}
use Rattle.bb_tree.specs.NodeViews.{branch_of}
use Rattle.bb_tree.specs.Paths.{child_of}
use Rattle.bb_tree.proofs.Nodes.{branches_of_out, child_turn, past_all}
use Rattle.bb_tree.proofs.find.child_named.Goals as goal

pub loop-node-init : goal.loop-node-init
loop-node-init c = ap (λ (l : List Node). child_of c.args.name.now (forest (map branch_of l))) c.deref-node-items.ensures.value ∙ ap (λ l. child_of c.args.name.now (forest l)) (sym (branches_of_out c.args.nodes.now))

pub returns-then-eq : goal.returns-then-eq
returns-then-eq c =
    let name = c.args.name.now in
    let items = c.deref-node-items.result.now in
    let turn = child_turn name items c.loop-node.node-index c.node-item.result (omega arith) c.node-item.is in
    let test : bytes_eq name (out-Node c.node-item.result).name ≡ true = ap (bytes_eq name) (sym c.as_str.ensures) ∙ sym c.if-eq.ensures in
    let rest = child_of name (forest (map branch_of (drop (c.loop-node.node-index + 1) items))) in
    sym (ap (λ (b : Bool). cond b (Some (branch_of c.node-item.result)) rest) test) ∙ sym turn ∙ c.loop-node.invariant

pub loop-node-preserved : goal.loop-node-preserved
loop-node-preserved c =
    let name = c.args.name.now in
    let items = c.deref-node-items.result.now in
    let turn = child_turn name items c.loop-node.node-index c.node-item.result (omega arith) c.node-item.is in
    let test : bytes_eq name (out-Node c.node-item.result).name ≡ false = ap (bytes_eq name) (sym c.as_str.ensures) ∙ sym c.if-eq.ensures in
    let rest = child_of name (forest (map branch_of (drop (c.loop-node.node-index + 1) items))) in
    sym (ap (λ (b : Bool). cond b (Some (branch_of c.node-item.result)) rest) test) ∙ sym turn ∙ c.loop-node.invariant

pub returns : goal.returns
returns c =
    let items = c.deref-node-items.result.now in
    sym (ap (λ (l : List Node). child_of c.args.name.now (forest (map branch_of l))) (past_all items c.loop-node.node-index (omega arith))) ∙ c.loop-node.invariant
