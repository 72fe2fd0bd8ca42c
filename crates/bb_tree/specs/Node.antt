-- A node as a value: its name, its properties as pairs of a name and a value, and its nodes, each
-- in the same form. The values are bytes in a finished tree, and lists of parts in a draft.
use Rattle.std.specs.Prelude.{ℕ, List, [], ◌∷◌, ◌++◌, map}

-- nodes that stand beside one another: none, or one with its own nodes and the rest
pub data Forest (V : Type 0) : Type 0 where
  empty : Forest V
  node : (name : List ℕ) → (props : List (List ℕ × V)) → (nodes rest : Forest V) → Forest V

pub record Branch (V : Type 0) : Type 0 where
  pub name : List ℕ
  pub props : List (List ℕ × V)
  pub nodes : Forest V

module _ {V : Type 0} where
  -- a node of that name with nothing in it
  abbrev pub bare : List ℕ → Branch V
  bare n = record { name = n; props = []; nodes = empty }

  -- a node before others
  abbrev pub grow : Branch V → Forest V → Forest V
  grow b rest = node b.name b.props b.nodes rest

  -- a list of nodes as a forest, and back
  abbrev pub forest : List (Branch V) → Forest V
  forest [] = empty
  forest (b ∷ bs) = grow b (forest bs)

  abbrev pub branches : Forest V → List (Branch V)
  branches empty = []
  branches (node n ps ks rest) = record { name = n; props = ps; nodes = ks } ∷ branches rest

  -- the nodes of a forest in preorder, each before the nodes in it
  abbrev pub preorder_of : Forest V → List (Branch V)
  preorder_of empty = []
  preorder_of (node n ps ks rest) =
      record { name = n; props = ps; nodes = ks } ∷ preorder_of ks ++ preorder_of rest

  -- a node and all nodes in it, in preorder
  abbrev pub preorder : Branch V → List (Branch V)
  preorder b = b ∷ preorder_of b.nodes

module _ {V W : Type 0} where
  -- the same nodes with other values
  abbrev pub with_values_of : (V → W) → Forest V → Forest W
  with_values_of f empty = empty
  with_values_of f (node n ps ks rest) =
      node n (map (λ p. (p.0, f p.1)) ps) (with_values_of f ks) (with_values_of f rest)

  abbrev pub with_values : (V → W) → Branch V → Branch W
  with_values f b = record {
    name = b.name;
    props = map (λ p. (p.0, f p.1)) b.props;
    nodes = with_values_of f b.nodes;
  }
