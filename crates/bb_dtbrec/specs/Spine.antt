-- The pieces of the nodes of variables, while some of these nodes are open: of an open node all is
-- written but its end and the nodes that are still to come in it. Each is the last one in the node
-- above it.
use Rattle.std.specs.Prelude.{◌≡◌, ℕ, ◌+◌, ◌-◌, List, [], ◌∷◌, ◌++◌, codes, length, replicate}
use Rattle.std.specs.List.{common_prefix_len, flat_map}
use Rattle.std.specs.Str.{bytes_eq}
use Rattle.bb_tree.specs.Node.{Branch, forest}
use Rattle.bb_tree.specs.Blob.{begin_text, word}
use Rattle.bb_layout.specs.Record.{Grown, nodes_with_prop}
use Rattle.bb_dtbrec.specs.declared.piece.Piece.{Piece}
use Rattle.bb_dtbrec.specs.declared.piece.Piece.TheVariants.{Fixed}
use Rattle.bb_layout.specs.declared.var.Var.{Var}
use Rattle.bb_dtbrec.specs.Layouts.{field_for}
use Rattle.bb_dtbrec.specs.Trees.{nodes_pieces, prop_pieces}

-- ---- what is written

-- where the name `value` begins in the strings block
abbrev pub value_offset : ℕ
value_offset = 26

abbrev pub begin_piece : List ℕ → Piece
begin_piece name = Fixed (begin_text name)

abbrev pub end_piece : Piece
end_piece = Fixed (word 2)

-- properties of that name
abbrev pub props_written : List (List ℕ × Piece) → List Piece
props_written props = flat_map (prop_pieces (λ name. value_offset)) props

-- nodes whose properties have that name
abbrev pub nodes_written : List (Branch Piece) → List Piece
nodes_written nodes = nodes_pieces (λ name. value_offset) (forest nodes)

-- ---- open nodes

-- an open node, after the nodes before it
pub record Open : Type 0 where
  pub front : List (Branch Piece)
  pub name : List ℕ
  pub props : List (List ℕ × Piece)

-- the nodes, where these are open, each in the one before, and `inner` stands in the last
abbrev pub nodes_in : List Open → List (Branch Piece) → List (Branch Piece)
nodes_in [] inner = inner
nodes_in (o ∷ os) inner =
    o.front ++ record { name = o.name; props = o.props; nodes = forest (nodes_in os inner) } ∷ []

-- what is written of an open node, up to the end of its properties
abbrev pub own_pieces : Open → List Piece
own_pieces o = nodes_written o.front ++ (begin_piece o.name ∷ props_written o.props)

-- what is written
abbrev pub pieces_in : List Open → List (Branch Piece) → List Piece
pieces_in [] inner = nodes_written inner
pieces_in (o ∷ os) inner = own_pieces o ++ pieces_in os inner

-- after how many pieces the properties of each open node end
abbrev pub ends_in : ℕ → List Open → List ℕ
ends_in before [] = []
ends_in before (o ∷ os) =
    (before + length (own_pieces o)) ∷ ends_in (before + length (own_pieces o)) os

-- the last open node with a property more
abbrev pub put_in_last : List ℕ × Piece → List Open → List Open
put_in_last prop [] = []
put_in_last prop (o ∷ []) =
    record { front = o.front; name = o.name; props = o.props ++ prop ∷ [] } ∷ []
put_in_last prop (o ∷ p ∷ os) = o ∷ put_in_last prop (p ∷ os)

-- these pieces and ends are those of the nodes of variables, where the last path is open
pub record SpellsNodes (grown : Grown Piece) (written : List Piece) (ends : List ℕ) : Type 0 where
  pub opens : List Open
  pub inner : List (Branch Piece)
  pub depth : length opens ≡ length grown.path
  pub nodes : grown.nodes ≡ nodes_in opens inner
  pub pieces : written ≡ pieces_in opens inner
  pub ends_are : ends ≡ ends_in 0 opens

-- and these are so where a path is open that leads to a property which is still to come
pub record IsOpened (grown : Grown Piece) (path : List (List ℕ)) (written : List Piece)
    (ends : List ℕ) : Type 0 where
  pub opens : List Open
  pub inner : List (Branch Piece)
  pub depth : length opens ≡ length path
  pub nodes : (prop : List ℕ × Piece) →
      nodes_with_prop (common_prefix_len bytes_eq grown.path path) path prop grown.nodes
      ≡ nodes_in (put_in_last prop opens) inner
  pub pieces : written ≡ pieces_in opens inner
  pub ends_are : ends ≡ ends_in 0 opens

-- ---- nodes that are opened

-- after how many pieces each of these nodes is begun, after so many
abbrev pub marks : ℕ → List (List ℕ) → List ℕ
marks before [] = []
marks before (name ∷ names) = (before + 1) ∷ marks (before + 1) names

-- what is written when the nodes beyond so many have ended
abbrev pub pieces_left : ℕ → List Piece → List ℕ → List Piece
pieces_left shared written ends = written ++ replicate (length ends - shared) end_piece

-- ---- the property of a variable

abbrev pub prop_written : List ℕ × Piece → List Piece
prop_written prop = prop_pieces (λ name. value_offset) prop

abbrev pub field_written : Var → List Piece
field_written v = prop_written (codes "value", field_for v)
