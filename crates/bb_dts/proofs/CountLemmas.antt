-- How many nodes merging leaves.
use Rattle.std.proofs.Common.{◌≡◌, ℕ, ◌+◌, ◌≤◌, List, [], ◌∷◌, ◌++◌, arith, length-append}
use Rattle.bb_tree.specs.declared.part.Part.{Part}
use Rattle.bb_tree.specs.Merge.{merged}
use Rattle.bb_tree.specs.Node.{Branch, Forest, empty, node, forest, preorder_of}
use Rattle.bb_tree.proofs.Counting.{count, length-merged}

count-node : (n : List ℕ) (ps : List (List ℕ × List Part)) (ks rest : Forest (List Part)) → count (node n ps ks rest) ≡ 1 + (count ks + count rest)
count-node n ps ks rest = omega (arith, length-append (preorder_of ks) (preorder_of rest))

pub count-push : (nodes : List (Branch (List Part))) (b : Branch (List Part)) → count (forest (nodes ++ b ∷ [])) ≡ count (forest nodes) + (1 + count b.nodes)
count-push [] b = omega (arith, count-node b.name b.props b.nodes empty)
count-push (x ∷ xs) b = omega (arith, count-push xs b, count-node x.name x.props x.nodes (forest (xs ++ b ∷ [])), count-node x.name x.props x.nodes (forest xs))

-- merging adds no more nodes than the body has
pub count-merged : (tree : Branch (List Part)) (path : List ℕ) (body : Branch (List Part)) → count (merged tree path body).nodes ≤ count tree.nodes + count body.nodes
count-merged tree path body = omega (arith, length-merged tree path body)
