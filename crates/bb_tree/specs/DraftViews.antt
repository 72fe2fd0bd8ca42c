-- What a clause sees of a node of a draft: as of a finished node, with lists of parts for values.
use Rattle.std.specs.Prelude.{ℕ, List, Option, map}
use Rattle.std.specs.Borrow.{Bor}
use Rattle.std.specs.Option.{option_copied, option_map}
use Rattle.bb_tree.specs.declared.draft_prop.DraftProp.{DraftProp}
use Rattle.bb_tree.specs.Node.{Branch, forest}
use Rattle.bb_tree.specs.declared.part.Part.{Part}
use Rattle.bb_tree.specs.declared.draft_node.DraftNode.{DraftNode}
use Rattle.bb_tree.specs.declared.draft_node.DraftNodeList.{DraftNodeList}
use Rattle.bb_tree.specs.declared.draft_node.DraftNode.TheOpen.{DraftNode-F, DraftNodeList-F}
use Rattle.bb_tree.specs.declared.draft_node.DraftNode.TheFolds.{fold-DraftNode, fold-DraftNodeList}

-- properties as pairs of their names and their parts
abbrev pub prop_pairs : List DraftProp → List (List ℕ × List Part)
prop_pairs props = map (λ p. (p.name, p.parts)) props

-- one node, with its nodes seen already
abbrev pub seen_node :
    DraftNode-F (Branch (List Part)) (List (Branch (List Part))) → Branch (List Part)
seen_node n = record { name = n.name; props = prop_pairs n.props; nodes = forest n.nodes }

abbrev pub seen_nodes :
    DraftNodeList-F (Branch (List Part)) (List (Branch (List Part))) → List (Branch (List Part))
seen_nodes l = l.inner.items

abbrev pub draft_of : DraftNode → Branch (List Part)
draft_of = fold-DraftNode (Branch (List Part)) (List (Branch (List Part))) seen_node seen_nodes

abbrev pub drafts_of : DraftNodeList → List (Branch (List Part))
drafts_of = fold-DraftNodeList (Branch (List Part)) (List (Branch (List Part))) seen_node seen_nodes

-- what is seen of a node that was looked for
abbrev pub draft_seen : Option (Bor DraftNode) → Option (Branch (List Part))
draft_seen node = option_map draft_of (option_copied node)
