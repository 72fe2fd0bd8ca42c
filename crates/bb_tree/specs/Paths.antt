-- Paths: full node names, each after a `/` (Devicetree Specification v0.4, section 2.2.3). `/`
-- alone is the root.
use Rattle.std.specs.Prelude.{ℕ, ◌==◌, List, [], ◌∷◌, ◌++◌, Option, Some, None, codes, option_and_then, if◌then◌else◌}
use Rattle.std.specs.List.{slice_split}
use Rattle.std.specs.Str.{bytes_eq}
use Rattle.std.specs.Map.{lookup}
use Rattle.bb_tree.specs.Node.{Forest, empty, node, Branch}

-- the code of `/`
abbrev pub slash : ℕ
slash = 47

-- the names between slashes
abbrev pub names_between : List ℕ → List (List ℕ)
names_between text = slice_split (λ b. b == slash) text

-- the names in what stands after the first `/`
abbrev pub names_behind : List ℕ → List (List ℕ)
names_behind [] = []
names_behind (c ∷ cs) = names_between (c ∷ cs)

-- the names that a path leads through, none for a text that does not begin with `/`
abbrev pub path_names : List ℕ → Option (List (List ℕ))
path_names [] = None
path_names (c ∷ rest) = if c == slash then Some (names_behind rest) else None

-- the path through these names
abbrev pub path_behind : List (List ℕ) → List ℕ
path_behind [] = []
path_behind (n ∷ ns) = slash ∷ n ++ path_behind ns

abbrev pub path_of : List (List ℕ) → List ℕ
path_of [] = codes "/"
path_of (n ∷ ns) = path_behind (n ∷ ns)

module _ {V : Type 0} where
  -- the first node of that name
  abbrev pub child_of : List ℕ → Forest V → Option (Branch V)
  child_of name empty = None
  child_of name (node n ps ks rest) =
      if bytes_eq name n
      then Some (record { name = n; props = ps; nodes = ks })
      else child_of name rest

  -- the node that the names lead to, by the first node of each name
  abbrev pub node_at : List (List ℕ) → Branch V → Option (Branch V)
  node_at [] b = Some b
  node_at (n ∷ ns) b = option_and_then (node_at ns) (child_of n b.nodes)

  -- the node at a path
  abbrev pub found : List ℕ → Branch V → Option (Branch V)
  found path b = option_and_then (λ ns. node_at ns b) (path_names path)

  -- the first property of that name
  abbrev pub prop_of : List ℕ → Branch V → Option V
  prop_of name b = lookup (bytes_eq name) b.props
