-- Resolving: what becomes of the references in a draft's values once the whole tree is there.
-- A reference inside `< >` becomes the phandle of the node, one outside it the node's path and a
-- zero byte. Nodes are gone through in preorder, a node's properties in order, a value's parts from
-- left to right.
use Rattle.std.specs.Prelude.{ℕ, ◌+◌, ◌==◌, Bool, true, false, not, ◌&&◌, List, [], ◌∷◌, ◌++◌, Option, Some, None, Result, Ok, Err, codes, fold, length, is_none, option_and_then, unwrap_or, if◌then◌else◌}
use Rattle.std.specs.Option.{option_map_or}
use Rattle.std.specs.List.{find, flat_map, filter_map, list_any, range_with_len}
use Rattle.std.specs.Int.{to_be_bytes, w32}
use Rattle.std.specs.Map.{lookup}
use Rattle.std.specs.Str.{bytes_eq}
use Rattle.bb_tree.specs.declared.part.Part.{Part}
use Rattle.bb_tree.specs.declared.part.Part.TheVariants.{Bytes, Cell, Path}
use Rattle.bb_tree.specs.declared.tree_error.TreeError.{TreeError}
use Rattle.bb_tree.specs.declared.tree_error.TreeError.TheVariants.{DuplicatePhandle, NoSuchLabel}
use Rattle.bb_tree.specs.Node.{Branch, preorder, with_values}
use Rattle.bb_tree.specs.Paths.{path_names, node_at, found}
use Rattle.bb_tree.specs.Merge.{put, reached}
use Rattle.bb_tree.specs.Phandle.{phandle_in, phandle_by, phandles_by}
use Rattle.bb_tree.specs.Draft.{DraftValue, Labels, path_labelled}

-- a reference: its label, its offset, and whether it stands inside `< >`
pub record Reference : Type 0 where
  pub label : List ℕ
  pub at : ℕ
  pub is_cell : Bool

-- the reference that a part is
abbrev pub reference_in : Part → Option Reference
reference_in (Bytes b) = None
reference_in (Cell l a) = Some (record { label = l; at = a; is_cell = true })
reference_in (Path l a) = Some (record { label = l; at = a; is_cell = false })

-- the references of one node in the order of resolving
abbrev pub references_in : Branch (List Part) → List Reference
references_in b = flat_map (λ p. filter_map reference_in p.1) b.props

-- the references of a node and all nodes in it
abbrev pub references : Branch (List Part) → List Reference
references tree = flat_map references_in (preorder tree)

-- the bytes of a value that are there before anything is resolved
abbrev pub bytes_there : Part → List ℕ
bytes_there (Bytes b) = b
bytes_there (Cell l a) = []
bytes_there (Path l a) = []

-- the same of a value
abbrev pub literal : List Part → List ℕ
literal parts = flat_map bytes_there parts

-- the phandle of a node with these properties
abbrev pub phandle_among : List (List ℕ × List Part) → Option ℕ
phandle_among props =
    option_and_then (λ parts. phandle_in (literal parts))
    (lookup (bytes_eq (codes "phandle")) props)

-- the phandles that nodes have
abbrev pub phandles : Branch (List Part) → List ℕ
phandles = phandles_by literal

-- the names that lead to the node that a label stands for
abbrev pub names_labelled : Labels → List ℕ → Option (List (List ℕ))
names_labelled labels label = option_and_then path_names (path_labelled labels label)

-- the node that a label stands for
abbrev pub node_labelled : Labels → Branch (List Part) → List ℕ → Option (Branch (List Part))
node_labelled labels tree label =
    option_and_then (λ path. found path tree) (path_labelled labels label)

-- whether a reference's label stands for no node
abbrev pub is_unresolved : Labels → Branch (List Part) → Reference → Bool
is_unresolved labels tree r = is_none (node_labelled labels tree r.label)

-- the first number from 1 on that isn't in the list
abbrev pub least_free : List ℕ → ℕ
least_free taken =
    unwrap_or
    (find (λ n. not (list_any (λ m. n == m) taken)) (range_with_len 1 (length taken + 1))) 0

-- whether no number stands twice in a list
abbrev pub is_distinct : List ℕ → Bool
is_distinct [] = true
is_distinct (n ∷ ns) = not (list_any (λ m. n == m) ns) && is_distinct ns

-- the value of a property `phandle`
abbrev pub phandle_value : ℕ → List Part
phandle_value n = Bytes (to_be_bytes w32 n) ∷ []

-- a phandle for the node that the names lead to: the least number that no node has, as the value of
-- its property `phandle`, in that property's place where it has one, else last
abbrev pub with_new_phandle : Branch (List Part) → List (List ℕ) → Branch (List Part)
with_new_phandle tree names =
    let value = phandle_value (least_free (phandles tree)) in
    reached names (λ b. record b { props = put b.props (codes "phandle") value }) tree

-- the same, where the node has none
abbrev pub with_phandle : Branch (List Part) → List (List ℕ) → Branch (List Part)
with_phandle tree names =
    if is_none (option_and_then (phandle_by literal) (node_at names tree))
    then with_new_phandle tree names
    else tree

-- the nodes that references inside `< >` lead to, in the order of resolving
abbrev pub targets : Labels → Branch (List Part) → List (List (List ℕ))
targets labels tree =
    filter_map (λ r. if r.is_cell then names_labelled labels r.label else None) (references tree)

-- the tree in which each node that is referred to inside `< >` has a phandle
abbrev pub with_phandles : Labels → Branch (List Part) → Branch (List Part)
with_phandles labels tree = fold with_phandle tree (targets labels tree)

-- the bytes that a part stands for in a numbered tree
abbrev pub resolved_part : Labels → Branch (List Part) → Part → List ℕ
resolved_part labels tree (Bytes b) = b
resolved_part labels tree (Cell l a) =
    to_be_bytes w32
    (unwrap_or (option_and_then (phandle_by literal) (node_labelled labels tree l)) 0)
resolved_part labels tree (Path l a) = unwrap_or (path_labelled labels l) [] ++ 0 ∷ []

-- a tree with the bytes that its values stand for
abbrev pub resolved_tree : Labels → Branch (List Part) → Branch (List ℕ)
resolved_tree labels tree = with_values (flat_map (resolved_part labels tree)) tree

-- the finished tree, or why there is none: a label that names no node is looked at before a phandle
-- that two nodes have
abbrev pub resolved : DraftValue → Result (Branch (List ℕ)) TreeError
resolved draft =
    option_map_or (λ r. Err (NoSuchLabel r.at))
    (find (is_unresolved draft.labels draft.tree) (references draft.tree))
    (if is_distinct (phandles draft.tree)
    then Ok (resolved_tree draft.labels (with_phandles draft.labels draft.tree))
    else Err DuplicatePhandle)
