-- The state node, and what its layout is called (devicetree binding `barebox,state`; barebox User
-- Manual, State Framework).
use Rattle.std.specs.Prelude.{ℕ, Bool, true, false, ◌&&◌, List, Option, Some, None, if◌then◌else◌, codes, find, option_and_then, option_map, unwrap_or}
use Rattle.std.specs.Option.{option_map_or, option_or}
use Rattle.std.specs.Str.{bytes_eq}
use Rattle.bb_tree.specs.Node.{Branch, preorder}
use Rattle.bb_tree.specs.Paths.{found, prop_of}
use Rattle.bb_layout.specs.Fields.{base_name, has_string, utf8_string}

-- a node counts where its `compatible` is a list of strings that has `barebox,state`
abbrev pub counts : Branch (List ℕ) → Bool
counts b = option_map_or (λ value. has_string value (codes "barebox,state")) (prop_of (codes "compatible") b) false

-- the node, if it counts
abbrev pub counting : Branch (List ℕ) → Option (Branch (List ℕ))
counting b = if counts b then Some b else None

-- the node that counts and whose path is the property of that name of `/aliases`
abbrev pub node_by_alias : Branch (List ℕ) → List ℕ → Option (Branch (List ℕ))
node_by_alias tree name =
    option_and_then counting (option_and_then (λ path. found path tree)
    (option_and_then utf8_string (option_and_then (prop_of name) (found (codes "/aliases") tree))))

-- a node counts, and is called so up to its `@` where a name is given
abbrev pub is_wanted : Option (List ℕ) → Branch (List ℕ) → Bool
is_wanted name b = counts b && option_map_or (λ n. bytes_eq (base_name b.name) n) name true

-- the layout's name and the state node: the one that is aliased `state`, or by the name that is
-- given; else the first in preorder that counts, and is called so
abbrev pub state_of : Branch (List ℕ) → Option (List ℕ) → Option (List ℕ × Branch (List ℕ))
state_of tree name =
    let alias = unwrap_or name (codes "state") in
    option_or
    (option_map (λ b. (alias, b)) (node_by_alias tree alias))
    (option_map (λ b. (base_name b.name, b)) (find (is_wanted name) (preorder tree)))
