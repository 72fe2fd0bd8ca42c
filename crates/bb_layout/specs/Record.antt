-- The tree of a record that is a blob of its own (barebox User Manual, State Framework, the backend
-- type `dtb`). Its shape is the same for all areas of a layout, whatever stands for a value: bytes,
-- or the place of a variable.
use Rattle.std.specs.Prelude.{ℕ, zero, suc, List, [], ◌∷◌, ◌++◌, codes, drop, fold, reverse, take}
use Rattle.std.specs.Int.{w32, to_be_bytes}
use Rattle.std.specs.List.{common_prefix_len}
use Rattle.std.specs.Str.{bytes_eq}
use Rattle.bb_tree.specs.Node.{Branch, empty, grow, branches, forest}
use Rattle.bb_vars.specs.declared.kind.Kind.{Kind}
use Rattle.bb_vars.specs.declared.kind.Kind.TheVariants.{Uint8, Uint32, Enum32, Mac, Chars}
use Rattle.bb_layout.specs.declared.var.Var.{Var}

-- ---- values

-- a cell holds a number, big endian
abbrev pub cell : ℕ → List ℕ
cell n = to_be_bytes w32 n

-- The value that the bytes of a variable stand for, in a cell where it is a number: that is little
-- endian in the area.
abbrev pub value_in : Kind → List ℕ → List ℕ
value_in Uint8 bytes = 0 ∷ 0 ∷ 0 ∷ bytes
value_in Uint32 bytes = reverse bytes
value_in (Enum32 names) bytes = reverse bytes
value_in Mac bytes = bytes
value_in (Chars size) bytes = bytes

abbrev pub value_of : List ℕ → Var → List ℕ
value_of area v = value_in v.kind (take v.size (drop v.at area))

-- the property of a variable that has this value
abbrev pub prop_with : {V : Type 0} → (Var → V) → Var → List ℕ × V
prop_with value v = (codes "value", value v)

abbrev pub value_prop : List ℕ → Var → List ℕ × List ℕ
value_prop area v = prop_with (value_of area) v

-- ---- the nodes of variables

-- a node of that name in which a path leads on, a node for each of its names, the last with the
-- property
abbrev pub node_for : {V : Type 0} → List ℕ → List (List ℕ) → List ℕ × V → Branch V
node_for name [] prop = record { name = name; props = prop ∷ []; nodes = empty }
node_for name (next ∷ path) prop =
    record { name = name; props = []; nodes = grow (node_for next path prop) empty }

-- the list with its last item changed
abbrev pub with_last : {A : Type 0} → (A → A) → List A → List A
with_last f [] = []
with_last f (x ∷ []) = f x ∷ []
with_last f (x ∷ y ∷ xs) = x ∷ with_last f (y ∷ xs)

abbrev pub put_prop : {V : Type 0} → List ℕ × V → Branch V → Branch V
put_prop prop b = record { name = b.name; props = b.props ++ prop ∷ []; nodes = b.nodes }

-- A property is put where a path leads, after all that is there: through the last nodes for so
-- many of its names, which those nodes have, and then through new ones.
abbrev pub nodes_with_prop :
    {V : Type 0} → ℕ → List (List ℕ) → List ℕ × V → List (Branch V) → List (Branch V)
nodes_with_prop shared [] prop nodes = nodes
nodes_with_prop zero (name ∷ path) prop nodes = nodes ++ node_for name path prop ∷ []
nodes_with_prop (suc shared) (name ∷ []) prop nodes = with_last (put_prop prop) nodes
nodes_with_prop (suc shared) (name ∷ next ∷ path) prop nodes =
    with_last
    (λ b. record {
      name = b.name;
      props = b.props;
      nodes = forest (nodes_with_prop shared (next ∷ path) prop (branches b.nodes));
    })
    nodes

-- the nodes of the variables so far, and the path of the last of them
pub record Grown (V : Type 0) : Type 0 where
  pub path : List (List ℕ)
  pub nodes : List (Branch V)

-- a variable more, which shares the nodes of the longest path that leads to it and to the one
-- before
abbrev pub with_var : {V : Type 0} → (Var → V) → Grown V → Var → Grown V
with_var value grown v = record {
  path = v.path;
  nodes = nodes_with_prop (common_prefix_len bytes_eq grown.path v.path) v.path (prop_with value v)
      grown.nodes;
}

abbrev pub grown_by : {V : Type 0} → (Var → V) → List Var → Grown V
grown_by value vars = fold (with_var value) (record { path = []; nodes = [] }) vars

-- over the bytes of an area
abbrev pub grown_of : List ℕ → List Var → Grown (List ℕ)
grown_of area vars = grown_by (value_of area) vars

-- ---- the tree

-- what each record of a layout says, whatever the values are: the state node's full name, its
-- magic, and the variables
pub record Recorded : Type 0 where
  pub node : List ℕ
  pub magic : ℕ
  pub vars : List Var

-- the state node, by what stands for bytes that are always the same, and for the value of a
-- variable
abbrev pub state_by : {V : Type 0} → (List ℕ → V) → (Var → V) → Recorded → Branch V
state_by fixed value recorded = record {
  name = recorded.node;
  props =
      (codes "compatible", fixed (codes "barebox,state" ++ 0 ∷ []))
      ∷ (codes "magic", fixed (cell recorded.magic)) ∷ [];
  nodes = forest (grown_by value recorded.vars).nodes;
}

-- the root, where 4 zero bytes stand for the CRC
abbrev pub record_tree_by : {V : Type 0} → (List ℕ → V) → (Var → V) → Recorded → Branch V
record_tree_by fixed value recorded = record {
  name = [];
  props = (codes "bb,crc32", fixed (0 ∷ 0 ∷ 0 ∷ 0 ∷ [])) ∷ [];
  nodes = grow (state_by fixed value recorded) empty;
}

-- over the bytes of an area
abbrev pub state_record_tree : Recorded → List ℕ → Branch (List ℕ)
state_record_tree recorded area = state_by (λ bytes. bytes) (value_of area) recorded

abbrev pub record_tree_of : Recorded → List ℕ → Branch (List ℕ)
record_tree_of recorded area = record_tree_by (λ bytes. bytes) (value_of area) recorded
