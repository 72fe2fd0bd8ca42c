-- A body's nodes merged one after another, and what the values of nodes are.
use Rattle.std.proofs.Common.{◌≡◌, ℕ, List, [], ◌∷◌, ◌++◌, map, refl, sym, ap, subst}
use Rattle.bb_tree.specs.declared.part.Part.{Part}
use Rattle.bb_tree.specs.declared.slot.Slot.{Slot}
use Rattle.bb_tree.specs.declared.draft_prop.DraftProp.{DraftProp}
use Rattle.bb_tree.specs.declared.draft_node.DraftNode.{DraftNode}
use Rattle.bb_tree.specs.declared.draft_node.DraftNodeList.{DraftNodeList}
use Rattle.bb_tree.specs.declared.draft_node.DraftNode.TheViews.{out-DraftNode, out-DraftNodeList}
use Rattle.bb_tree.specs.declared.draft_node.DraftNode.TheFolds.{fold_out-DraftNode, fold_out-DraftNodeList}
use Rattle.bb_tree.specs.DraftViews.{draft_of, drafts_of, seen_node, seen_nodes}
use Rattle.bb_tree.specs.Node.{Forest, Branch, forest}
use Rattle.bb_tree.specs.Merge.{put_all, in_child, reached, with_child, merging_nodes, merging}
use Rattle.bb_tree.specs.Slots.{Changes, HasChild, with_props, with_node, with_nodes}
use Rattle.bb_tree.proofs.Changing.{Changes-ext, Changes-then, Changes-in}

pub drafts_of_out : (l : DraftNodeList) → drafts_of l ≡ map draft_of (out-DraftNodeList l).inner.items
drafts_of_out l = fold_out-DraftNodeList (Branch (List Part)) (List (Branch (List Part))) seen_node seen_nodes l

abbrev pub pair : DraftProp → List ℕ × List Part
pair p = (p.name, p.parts)

pub draft_of_out : (n : DraftNode) → draft_of n ≡ record { name = (out-DraftNode n).name; props = map pair (out-DraftNode n).props; nodes = forest (drafts_of (out-DraftNode n).nodes) }
draft_of_out n = fold_out-DraftNode (Branch (List Part)) (List (Branch (List Part))) seen_node seen_nodes n

module _ {V : Type 0} where
  -- one node of a body merged into nodes
  abbrev pub merging_one : Branch V → Forest V → Forest V
  merging_one b nodes = in_child b.name (λ x. record { name = x.name; props = put_all x.props b.props; nodes = merging_nodes b.nodes x.nodes }) (with_child b.name nodes)

  -- a body's last node is merged last
  pub merging_nodes_push : (bs : List (Branch V)) (b : Branch V) (nodes : Forest V) → merging_nodes (forest (bs ++ b ∷ [])) nodes ≡ merging_one b (merging_nodes (forest bs) nodes)
  merging_nodes_push [] b nodes = refl
  merging_nodes_push (c ∷ bs) b nodes = merging_nodes_push bs b (merging_one c nodes)

-- one more node of a body, from its child on
pub Changes-node : (k d : ℕ) (bs : List (Branch (List Part))) (name : List ℕ) (props : List (List ℕ × List Part)) (inner : List (Branch (List Part))) (start before found filled after : List Slot) →
    Changes k (with_nodes bs) start before → HasChild k d name before found → Changes d (with_props props) found filled → Changes d (with_nodes inner) filled after →
    Changes k (with_nodes (bs ++ record { name = name; props = props; nodes = forest inner } ∷ [])) start after
Changes-node k d bs name props inner start before found filled after h child p n =
    let b : Branch (List Part) = record { name = name; props = props; nodes = forest inner } in
    let G : Branch (List Part) → Branch (List Part) = λ x. with_nodes inner (with_props props x) in
    Changes-ext k (λ x. reached (name ∷ []) G (with_node name (with_nodes bs x))) (with_nodes (bs ++ b ∷ [])) start after
    (λ x. ap (λ f. record { name = x.name; props = x.props; nodes = f }) (sym (merging_nodes_push bs b x.nodes)))
    (Changes-then k (with_nodes bs) (λ x. reached (name ∷ []) G (with_node name x)) start before after (λ x. refl) h
    (Changes-in k d name G before found after child (Changes-then d (with_props props) (with_nodes inner) found filled after (λ x. refl) p n)))

-- a whole body: its properties, then its nodes
pub Changes-body : (k : ℕ) (n : DraftNode) (a b c : List Slot) → Changes k (with_props (map pair (out-DraftNode n).props)) a b → Changes k (with_nodes (drafts_of (out-DraftNode n).nodes)) b c → Changes k (merging (draft_of n)) a c
Changes-body k n a b c p q =
    let out = out-DraftNode n in
    let body : Branch (List Part) = record { name = out.name; props = map pair out.props; nodes = forest (drafts_of out.nodes) } in
    subst (λ (x : Branch (List Part)). Changes k (merging x) a c) (sym (draft_of_out n))
    (Changes-then k (with_props (map pair out.props)) (with_nodes (drafts_of out.nodes)) a b c (λ x. refl) p q)
