use Rattle.std.proofs.Common.{◌≡◌, ◌+◌, List, Bool, true, false, Some, cond, map, drop, sym, ap, ◌∙◌, arith}
use Rattle.std.specs.Map.{lookup}
use Rattle.std.specs.Str.{bytes_eq}
use Rattle.bb_tree.specs.declared.prop.Prop.{Prop}
use Rattle.bb_tree.proofs.Nodes.{pair, prop_of_out, prop_turn, past_all}
use Rattle.bb_tree.proofs.node.Node.prop.Goals as goal

pub loop-prop-init : goal.loop-prop-init
loop-prop-init c = ap (λ (l : List Prop). lookup (bytes_eq c.args.name.now) (map pair l)) c.as_slice-prop-items.ensures ∙ sym (prop_of_out c.args.name.now c.args.self.now)

pub returns-then-eq : goal.returns-then-eq
returns-then-eq c =
    let name = c.args.name.now in
    let items = c.as_slice-prop-items.result.now in
    let prop = c.prop-item.result in
    let turn = prop_turn name items c.loop-prop.prop-index prop (omega arith) c.prop-item.is in
    let test : bytes_eq name prop.name ≡ true = ap (bytes_eq name) (sym c.as_str.ensures) ∙ sym c.if-eq.ensures in
    let rest = lookup (bytes_eq name) (map pair (drop (c.loop-prop.prop-index + 1) items)) in
    ap Some c.as_slice.ensures ∙ sym (ap (λ (b : Bool). cond b (Some prop.value) rest) test) ∙ sym turn ∙ c.loop-prop.invariant

pub loop-prop-preserved : goal.loop-prop-preserved
loop-prop-preserved c =
    let name = c.args.name.now in
    let items = c.as_slice-prop-items.result.now in
    let prop = c.prop-item.result in
    let turn = prop_turn name items c.loop-prop.prop-index prop (omega arith) c.prop-item.is in
    let test : bytes_eq name prop.name ≡ false = ap (bytes_eq name) (sym c.as_str.ensures) ∙ sym c.if-eq.ensures in
    let rest = lookup (bytes_eq name) (map pair (drop (c.loop-prop.prop-index + 1) items)) in
    sym (ap (λ (b : Bool). cond b (Some prop.value) rest) test) ∙ sym turn ∙ c.loop-prop.invariant

pub returns : goal.returns
returns c =
    let items = c.as_slice-prop-items.result.now in
    sym (ap (λ (l : List Prop). lookup (bytes_eq c.args.name.now) (map pair l)) (past_all items c.loop-prop.prop-index (omega arith))) ∙ c.loop-prop.invariant
