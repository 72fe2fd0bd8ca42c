use Rattle.std.proofs.Common.{◌≡◌, ◌+◌, ◌++◌, ◌∷◌, [], ℕ, List, drop, map, sym, ap, ◌∙◌}
use Rattle.bb_tree.specs.Node.{Branch, forest}
use Rattle.bb_tree.specs.NodeViews.{branch_of, branches_of, prop_pair, seen_node, seen_nodes}
use Rattle.bb_tree.specs.declared.node.Node.TheFolds.{fold-roll-Node}
use Rattle.bb_tree.specs.declared.prop.Prop.{Prop}
use Rattle.bb_layout.specs.Record.{node_for}
use Rattle.bb_layout.proofs.Records.{node_more}
use Rattle.bb_layout.proofs.record_nodes.+node_for.Goals as goal

pub returns : goal.returns
returns t c =
    let path = c.args.path.now in
    let prop = prop_pair c.args.prop in
    let next = c.in-Some.next.now in
    let made : branches_of c.push.new.self ≡ node_for next (drop (c.args.depth + 1) path) prop ∷ [] =
    c.in_ok-push.ensures.ok ∙ ap (λ (bs : List (Branch (List ℕ))). bs ++ branch_of c.in_ok-node_for.field-0 ∷ []) c.none-nodes.ensures
    ∙ ap (λ (b : Branch (List ℕ)). b ∷ []) c.in_ok-node_for.ensures in
    fold-roll-Node (Branch (List ℕ)) (List (Branch (List ℕ))) seen_node seen_nodes _
    ∙ ap (λ (bs : List (Branch (List ℕ))). record { name = c.in_ok-copy.field-0; props = map prop_pair c.none.result; nodes = forest bs }) made
    ∙ ap (λ (n : List ℕ). record { name = n; props = map prop_pair c.none.result; nodes = forest (node_for next (drop (c.args.depth + 1) path) prop ∷ []) }) c.in_ok-copy.ensures
    ∙ ap (λ (ps : List Prop). record { name = c.args.name.now; props = map prop_pair ps; nodes = forest (node_for next (drop (c.args.depth + 1) path) prop ∷ []) }) c.none.ensures
    ∙ sym (node_more c.args.name.now path c.args.depth next prop (sym c.in-Some.ensures))
