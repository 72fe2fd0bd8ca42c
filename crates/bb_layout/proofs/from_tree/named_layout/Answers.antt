use Rattle.std.proofs.Common.{◌≡◌, ℕ, List, None, Some, ap, rules, sym, ◌∙◌}
use Rattle.std.specs.Prelude.{codes, unwrap_or}
use Rattle.std.specs.Option.{option_copied, option_map}
use Rattle.bb_tree.specs.NodeViews.{branch_of}
use Rattle.bb_tree.specs.Node.{Branch}
use Rattle.bb_tree.proofs.Changing.{not_some}
use Rattle.bb_tree.proofs.Nodes.{branch_of_out}
use Rattle.bb_layout.specs.Fields.{base_name}
use Rattle.bb_layout.specs.StateNode.{node_by_alias}
use Rattle.bb_layout.proofs.Calling.{alias_counts, first_counts}
use Rattle.bb_layout.proofs.from_tree.named_layout.Goals as goal

pub returns-clause-refused : goal.returns-clause-refused
returns-clause-refused c =
    let root = branch_of c.args.tree.now.root in
    let name = option_copied c.args.name in
    let alias : c.unwrap_or-alias.result.now ≡ unwrap_or name (codes "state") = search rules in
    let none : node_by_alias root (unwrap_or name (codes "state")) ≡ None =
    ap (node_by_alias root) (sym alias) ∙ sym c.node_by_alias.ensures ∙ ap (λ o. option_map branch_of (option_copied o)) (not_some c.node_by_alias.result c.in_default.not-Some) in
    let some = sym c.first_wanted.ensures ∙ ap (λ o. option_map branch_of (option_copied o)) c.in-Some-first_wanted.is in
    let state = c.in-Some-first_wanted.state.now in
    let called : c.base_name.result.now ≡ base_name (branch_of state).name =
    c.base_name.ensures ∙ ap base_name (c.as_str.ensures ∙ sym (ap (λ (b : Branch (List ℕ)). b.name) (branch_of_out state))) in
    rw (first_counts root name c.args.geometry (branch_of state) none some, sym called) c.layout_at-2.ensures.refused

pub returns-in-Some-clause-refused : goal.returns-in-Some-clause-refused
returns-in-Some-clause-refused c =
    let root = branch_of c.args.tree.now.root in
    let name = option_copied c.args.name in
    let alias : c.unwrap_or-alias.result.now ≡ unwrap_or name (codes "state") = search rules in
    let state = branch_of c.in-Some.state.now in
    let some : node_by_alias root (unwrap_or name (codes "state")) ≡ Some state =
    ap (node_by_alias root) (sym alias) ∙ sym c.node_by_alias.ensures ∙ ap (λ o. option_map branch_of (option_copied o)) c.in-Some.is in
    rw (alias_counts root name c.args.geometry state some, sym alias) c.layout_at.ensures.refused
