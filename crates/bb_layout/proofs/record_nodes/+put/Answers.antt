use Rattle.std.proofs.Common.{◌≡◌, ◌+◌, ◌-◌, ◌<◌, ◌++◌, ◌∷◌, [], ℕ, List, drop, length, map, rules, sym, ap, ◌∙◌, arith}
use Rattle.bb_tree.specs.Node.{Branch}
use Rattle.bb_tree.specs.NodeViews.{branch_of, branches_of, prop_pair, seen_node, seen_nodes}
use Rattle.bb_tree.specs.declared.node.Node.TheFolds.{fold-roll-Node, fold-roll-NodeList}
use Rattle.bb_tree.specs.declared.node.Node as view
use Rattle.bb_tree.specs.declared.node.NodeList.{roll-NodeList, out-NodeList}
use Rattle.bb_layout.specs.Record.{nodes_with_prop}
use Rattle.bb_layout.proofs.Records.{no_items, none_left, put_below, put_here, put_new, put_nothing, put_on_last, without_last}
use Rattle.bb_layout.proofs.record_nodes.+put.Goals as goal

pub returns-then-shared-eq0 : goal.returns-then-shared-eq0
returns-then-shared-eq0 t c =
    let path = c.args.path.now in
    let prop = prop_pair c.args.prop in
    let nodes = branches_of c.args.nodes in
    let none : c.args.shared ≡ 0 = omega (arith, c.if-shared-eq0.true) in
    c.in_ok-push.ensures.ok ∙ ap (λ (b : Branch (List ℕ)). nodes ++ b ∷ []) c.in_ok-node_for.ensures
    ∙ sym (put_new path c.args.depth c.in-Some.name.now prop nodes (sym c.in-Some.ensures))
    ∙ ap (λ (n : ℕ). nodes_with_prop n (drop c.args.depth path) prop nodes) (sym none)

pub returns-in_default-pop : goal.returns-in_default-pop
returns-in_default-pop t c =
    let path = c.args.path.now in
    let prop = prop_pair c.args.prop in
    let some : 0 < c.args.shared = omega (arith, c.if-shared-eq0.false) in
    let empty : length (out-NodeList c.args.nodes).inner.items ≡ 0 = search rules in
    let emptied : length c.pop.new.self.items ≡ 0 = search rules in
    fold-roll-NodeList (Branch (List ℕ)) (List (Branch (List ℕ))) seen_node seen_nodes _
    ∙ ap (map branch_of) (no_items c.pop.new.self.items emptied)
    ∙ sym (put_nothing c.args.shared path c.args.depth c.in-Some.name.now prop some (sym c.in-Some.ensures))
    ∙ ap (nodes_with_prop c.args.shared (drop c.args.depth path) prop) (sym (none_left c.args.nodes empty))

pub returns-then-depth-len-2 : goal.returns-then-depth-len-2
returns-then-depth-len-2 t c =
    let path = c.args.path.now in
    let prop = prop_pair c.args.prop in
    let rest = roll-NodeList (record { inner = c.pop.new.self }) in
    let items = c.pop.new.self.items in
    let kept : branches_of rest ≡ map branch_of items = fold-roll-NodeList (Branch (List ℕ)) (List (Branch (List ℕ))) seen_node seen_nodes _ in
    let last = c.in-Some-pop.last in
    let some : 0 < c.args.shared = omega (arith, c.if-shared-eq0.false) in
    let ends : length path ≡ c.args.depth + 1 = omega (arith, c.if-depth-len-2.true, c.len-2.ensures) in
    c.in_ok-push-2.ensures.ok ∙ ap (λ (b : Branch (List ℕ)). branches_of rest ++ b ∷ []) c.in_ok-with_prop.ensures
    ∙ sym (put_here c.args.shared path c.args.depth c.in-Some.name.now prop (branches_of rest) (branch_of last) some (sym c.in-Some.ensures) ends)
    ∙ ap (nodes_with_prop c.args.shared (drop c.args.depth path) prop) (sym (without_last c.args.nodes items last c.in-Some-pop.ensures.items ∙ ap (λ (bs : List (Branch (List ℕ))). bs ++ branch_of last ∷ []) (sym kept)))

pub returns : goal.returns
unfolding roll-NodeList view.roll-Node view.out-Node denote.Hole.Carrier.roll denote.Hole.Carrier.out
returns t c =
    let path = c.args.path.now in
    let prop = prop_pair c.args.prop in
    let rest = roll-NodeList (record { inner = c.pop.new.self }) in
    let items = c.pop.new.self.items in
    let kept : branches_of rest ≡ map branch_of items = fold-roll-NodeList (Branch (List ℕ)) (List (Branch (List ℕ))) seen_node seen_nodes _ in
    let last = c.in-Some-pop.last in
    let some : 0 < c.args.shared = omega (arith, c.if-shared-eq0.false) in
    let more : c.args.depth + 1 < length path = omega (arith, c.if-depth-len.false, c.len.ensures, c.if-depth-len-2.false, c.len-2.ensures) in
    c.in_ok-push-3.ensures.ok
    ∙ ap (λ (b : Branch (List ℕ)). branches_of rest ++ b ∷ [])
    (fold-roll-Node (Branch (List ℕ)) (List (Branch (List ℕ))) seen_node seen_nodes _
    ∙ put_on_last (c.args.shared - 1) (drop (c.args.depth + 1) path) prop last _ c.in_ok-inner.ensures)
    ∙ sym (put_below c.args.shared path c.args.depth c.in-Some.name.now prop (branches_of rest) (branch_of last) some (sym c.in-Some.ensures) more)
    ∙ ap (nodes_with_prop c.args.shared (drop c.args.depth path) prop) (sym (without_last c.args.nodes items last c.in-Some-pop.ensures.items ∙ ap (λ (bs : List (Branch (List ℕ))). bs ++ branch_of last ∷ []) (sym kept)))
