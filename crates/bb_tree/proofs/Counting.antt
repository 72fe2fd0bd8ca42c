-- How many nodes a merged tree has at most.
use Rattle.std.proofs.Common.{◌≡◌, ◌+◌, ◌≤◌, ◌∷◌, [], ℕ, List, length, Option, Some, None, ap, arith, length-append, inl, inr}
use Rattle.std.specs.Option.{option_map_or}
use Rattle.std.specs.Str.{bytes_eq}
use Rattle.std.proofs.lemmas.Bool.{cases_Bool}
use Rattle.bb_tree.specs.Node.{Forest, empty, node, Branch, preorder, preorder_of}
use Rattle.bb_tree.specs.Paths.{path_names}
use Rattle.bb_tree.specs.Merge.{put_all, in_child, reached, with_child, merging_nodes, merging, merged}
use Rattle.bb_tree.proofs.Merging.{in_here, in_there}

module _ {V : Type 0} where
  -- how many nodes a forest has
  abbrev pub count : Forest V → ℕ
  count f = length (preorder_of f)

  count_node : (n : List ℕ) (ps : List (List ℕ × V)) (ks rest : Forest V) → count (node n ps ks rest) ≡ count ks + count rest + 1
  count_node n ps ks rest = let e = length-append (preorder_of ks) (preorder_of rest) in omega arith

  count_with_child : (n : List ℕ) (f : Forest V) → count (with_child n f) ≤ count f + 1
  count_with_child n empty = omega arith
  count_with_child n (node m ps ks rest) =
      elim (cases_Bool (bytes_eq n m)) [
        | inl e ↦ rw e (omega arith)
        | inr e ↦ rw e (omega (arith, count_node m ps ks (with_child n rest), count_node m ps ks rest, count_with_child n rest))
      ]

  count_in_child : (n : List ℕ) (F : Branch V → Branch V) (c : ℕ) → ((b : Branch V) → count (F b).nodes ≤ count b.nodes + c) → (f : Forest V) → count (in_child n F f) ≤ count f + c
  count_in_child n F c h empty = omega arith
  count_in_child n F c h (node m ps ks rest) =
      let b : Branch V = record { name = m; props = ps; nodes = ks } in
      elim (cases_Bool (bytes_eq n m)) [
        | inl e ↦ omega (arith, ap count (in_here n m F ps ks rest e), count_node (F b).name (F b).props (F b).nodes rest, count_node m ps ks rest, h b)
        | inr e ↦ omega (arith, ap count (in_there n m F ps ks rest e), count_node m ps ks (in_child n F rest), count_node m ps ks rest, count_in_child n F c h rest)
      ]

  pub count_merging_nodes : (body nodes : Forest V) → count (merging_nodes body nodes) ≤ count nodes + count body
  count_merging_nodes empty nodes = omega arith
  count_merging_nodes (node n ps ks rest) nodes =
      let F : Branch V → Branch V = λ b. record { name = b.name; props = put_all b.props ps; nodes = merging_nodes ks b.nodes } in
      let one = count_in_child n F (count ks) (λ b. count_merging_nodes ks b.nodes) (with_child n nodes) in
      omega (arith, count_merging_nodes rest (in_child n F (with_child n nodes)), one, count_with_child n nodes, count_node n ps ks rest)

  count_reached : (names : List (List ℕ)) (F : Branch V → Branch V) (c : ℕ) → ((b : Branch V) → count (F b).nodes ≤ count b.nodes + c) → (b : Branch V) → count (reached names F b).nodes ≤ count b.nodes + c
  count_reached [] F c h b = h b
  count_reached (n ∷ ns) F c h b = count_in_child n (reached ns F) c (count_reached ns F c h) b.nodes

  -- a merged tree has at most the nodes of the tree and those in the body
  pub length-merged : (tree : Branch V) (path : List ℕ) (body : Branch V) → length (preorder (merged tree path body)) ≤ length (preorder tree) + count body.nodes
  length-merged tree path body = go (path_names path)
    where
      go : (o : Option (List (List ℕ))) → length (preorder (option_map_or (λ names. reached names (merging body) tree) o tree)) ≤ length (preorder tree) + count body.nodes
      go None = omega arith
      go (Some names) = omega (arith, count_reached names (merging body) (count body.nodes) (λ b. count_merging_nodes body.nodes b.nodes) tree)
