-- The length of a blob, counted without writing it.
use Rattle.std.specs.Prelude.{◌≡◌, ℕ, ◌+◌, List, [], ◌∷◌, ◌++◌, length, map, take, drop, if◌then◌else◌}
use Rattle.bb_tree.specs.declared.node.Node.{Node}
use Rattle.bb_tree.specs.declared.prop.Prop.{Prop}
use Rattle.bb_tree.specs.Node.{Forest, empty, node, Branch, grow}
use Rattle.bb_tree.specs.NodeViews.{branch_of, prop_pair}
use Rattle.bb_tree.specs.Blob.{whole_words, prop_names, has_name}

-- how many bytes properties take in the structure block
abbrev pub props_length : List (List ℕ × List ℕ) → ℕ
props_length [] = 0
props_length (p ∷ ps) = 12 + whole_words (length p.1) + props_length ps

-- how many bytes nodes take in the structure block
abbrev pub nodes_length : Forest (List ℕ) → ℕ
nodes_length empty = 0
nodes_length (node name props nodes rest) =
    8 + whole_words (length name + 1) + props_length props + nodes_length nodes + nodes_length rest

-- the names of a node's properties and of those of the nodes in it
unfoldable pub names_under : Branch (List ℕ) → List (List ℕ)
names_under b = prop_names (grow b empty)

-- the same of a node of a finished tree, and the names of some properties
abbrev pub node_names : Node → List (List ℕ)
node_names n = names_under (branch_of n)

abbrev pub names_of_props : List Prop → List (List ℕ)
names_of_props props = map (λ p. p.0) (map prop_pair props)

-- how many bytes a name adds to a strings block that has those seen before it
abbrev pub name_growth : List (List ℕ) → List ℕ → ℕ
name_growth seen name = if has_name seen name then 0 else length name + 1

-- the same of names that follow one another
abbrev pub strings_growth : List (List ℕ) → List (List ℕ) → ℕ
strings_growth seen [] = 0
strings_growth seen (name ∷ names) =
    name_growth seen name + strings_growth (seen ++ name ∷ []) names

-- the same of names that stand from a place on among all names
abbrev pub growth_at : ℕ → List (List ℕ) → List (List ℕ) → ℕ
growth_at place all names = strings_growth (take place all) names

-- the names stand in that order from a place on among all names
abbrev pub StandAt : ℕ → List (List ℕ) → List (List ℕ) → Type 0
StandAt place names all = take (length names) (drop place all) ≡ names
