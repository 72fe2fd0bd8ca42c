-- Merging: what the `{ }` of a node gives on top of what the node holds already. A property that is
-- there gets the new value in its old place, and a new one goes last; nodes of the same full name
-- are merged, and new ones go last. The same holds within one body (the source format of dtc: a
-- later definition of a node adds to the earlier one).
use Rattle.std.specs.Prelude.{ℕ, List, [], ◌∷◌, fold, if◌then◌else◌}
use Rattle.std.specs.Option.{option_map_or}
use Rattle.std.specs.Str.{bytes_eq}
use Rattle.bb_tree.specs.Node.{Forest, empty, node, Branch, bare, grow}
use Rattle.bb_tree.specs.Paths.{path_names}

module _ {V : Type 0} where
  -- the property with its new value, in its old place or last
  abbrev pub put : List (List ℕ × V) → List ℕ → V → List (List ℕ × V)
  put [] name value = (name, value) ∷ []
  put (p ∷ ps) name value = if bytes_eq name p.0 then (p.0, value) ∷ ps else p ∷ put ps name value

  abbrev pub put_all : List (List ℕ × V) → List (List ℕ × V) → List (List ℕ × V)
  put_all = fold (λ done p. put done p.0 p.1)

  -- the first node of that name changed, or nothing where there is none
  abbrev pub in_child : List ℕ → (Branch V → Branch V) → Forest V → Forest V
  in_child name change empty = empty
  in_child name change (node n ps ks rest) =
      if bytes_eq name n
      then grow (change (record { name = n; props = ps; nodes = ks })) rest
      else node n ps ks (in_child name change rest)

  -- the node that the names lead to changed
  abbrev pub reached : List (List ℕ) → (Branch V → Branch V) → Branch V → Branch V
  reached [] change b = change b
  reached (n ∷ ns) change b = record b { nodes = in_child n (reached ns change) b.nodes }

  -- the same nodes, and a bare one of that name last where there was none
  abbrev pub with_child : List ℕ → Forest V → Forest V
  with_child name empty = grow (bare name) empty
  with_child name (node n ps ks rest) =
      if bytes_eq name n then node n ps ks rest else node n ps ks (with_child name rest)

  -- a body's nodes, one after another, each merged into the node of its name
  abbrev pub merging_nodes : Forest V → Forest V → Forest V
  merging_nodes empty nodes = nodes
  merging_nodes (node n ps ks rest) nodes =
      merging_nodes rest (in_child n
      (λ b. record b { props = put_all b.props ps; nodes = merging_nodes ks b.nodes })
      (with_child n nodes))

  -- a body merged into a node. The body's name isn't looked at
  abbrev pub merging : Branch V → Branch V → Branch V
  merging body b =
      record b { props = put_all b.props body.props; nodes = merging_nodes body.nodes b.nodes }

  -- a body merged into the node at a path
  abbrev pub merged : Branch V → List ℕ → Branch V → Branch V
  merged tree path body =
      option_map_or (λ names. reached names (merging body) tree) (path_names path) tree
