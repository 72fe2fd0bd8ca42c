-- What a clause sees of a node of a finished tree: its name, its properties as pairs of a name and
-- bytes, and its nodes, each in the same form.
use Rattle.std.specs.Prelude.{ℕ, List, Option, map}
use Rattle.std.specs.Borrow.{Bor}
use Rattle.std.specs.Option.{option_copied, option_map}
use Rattle.bb_tree.specs.Node.{Branch, forest}
use Rattle.bb_tree.specs.declared.prop.Prop.{Prop}
use Rattle.bb_tree.specs.declared.node.Node.{Node}
use Rattle.bb_tree.specs.declared.node.NodeList.{NodeList}
use Rattle.bb_tree.specs.declared.node.Node.TheOpen.{Node-F, NodeList-F}
use Rattle.bb_tree.specs.declared.node.Node.TheFolds.{fold-Node, fold-NodeList}

-- a property as a pair of its name and its bytes
abbrev pub prop_pair : Prop → List ℕ × List ℕ
prop_pair p = (p.name, p.value)

-- one node, with its nodes seen already
abbrev pub seen_node : Node-F (Branch (List ℕ)) (List (Branch (List ℕ))) → Branch (List ℕ)
seen_node n = record { name = n.name; props = map prop_pair n.props; nodes = forest n.nodes }

abbrev pub seen_nodes :
    NodeList-F (Branch (List ℕ)) (List (Branch (List ℕ))) → List (Branch (List ℕ))
seen_nodes l = l.inner.items

abbrev pub branch_of : Node → Branch (List ℕ)
branch_of = fold-Node (Branch (List ℕ)) (List (Branch (List ℕ))) seen_node seen_nodes

abbrev pub branches_of : NodeList → List (Branch (List ℕ))
branches_of = fold-NodeList (Branch (List ℕ)) (List (Branch (List ℕ))) seen_node seen_nodes

-- what is seen of a node that was looked for
abbrev pub branch_seen : Option (Bor Node) → Option (Branch (List ℕ))
branch_seen node = option_map branch_of (option_copied node)
