-- Trees whose records have a pattern: the values of properties are templates, so fixed bytes or the
-- fields of variables. The names, and so the places of names, are the same for all areas, and so is
-- each length if the variables stand inside the area.
use Rattle.std.specs.Prelude.{ℕ, List, [], ◌∷◌, ◌++◌, codes, drop, length, map, take}
use Rattle.std.specs.Int.{w32, to_be_bytes}
use Rattle.std.specs.List.{flat_map}
use Rattle.bb_base.specs.Crc.{crc_of}
use Rattle.bb_tree.specs.Node.{Branch, Forest, empty, grow, node, with_values}
use Rattle.bb_tree.specs.Blob.{Devicetree, begin_text, filling, header_text, names_used, offset_of, reservation_list, strings_block, word}
use Rattle.bb_dtbrec.specs.declared.piece.Piece.{Piece}
use Rattle.bb_dtbrec.specs.declared.piece.Piece.TheVariants.{Fixed, Value}
use Rattle.bb_dtbrec.specs.Dtb.{IsInside, Pattern, front_len, head_len, piece_len, piece_text, pieces_len}

-- ---- trees at an area

-- the tree with each value as it is over an area
abbrev pub tree_at : List ℕ → Branch Piece → Branch (List ℕ)
tree_at area root = with_values (λ piece. piece_text piece area) root

-- the same as a devicetree with nothing reserved
abbrev pub devicetree_at : List ℕ → Branch Piece → Devicetree
devicetree_at area root = record { root = tree_at area root; reserved = [] }

-- the names of its properties, which are the same over all areas
abbrev pub template_names : Branch Piece → List (List ℕ)
template_names root = names_used (tree_at [] root)

-- where they begin in the strings block
abbrev pub template_offset : Branch Piece → List ℕ → ℕ
template_offset root = offset_of (template_names root)

-- ---- their pieces

-- the token FDT_PROP before a value: its length, and where its name begins
abbrev pub prop_token_bytes : (List ℕ → ℕ) → List ℕ × Piece → List ℕ
prop_token_bytes offset p = word 3 ++ (word (piece_len p.1) ++ word (offset p.0))

-- a property: its token, its value, and the zero bytes after it
abbrev pub prop_pieces : (List ℕ → ℕ) → List ℕ × Piece → List Piece
prop_pieces offset p =
    Fixed (prop_token_bytes offset p) ∷ p.1 ∷ Fixed (filling (piece_len p.1)) ∷ []

-- each node from FDT_BEGIN_NODE to FDT_END_NODE: its properties, then its nodes
abbrev pub nodes_pieces : (List ℕ → ℕ) → Forest Piece → List Piece
nodes_pieces offset empty = []
nodes_pieces offset (node name props nodes rest) =
    Fixed (begin_text name)
    ∷ (flat_map (prop_pieces offset) props
    ++ (nodes_pieces offset nodes ++ (Fixed (word 2) ∷ nodes_pieces offset rest)))

-- the structure block
abbrev pub structure_pieces : Branch Piece → List Piece
structure_pieces root =
    nodes_pieces (template_offset root) (grow root empty) ++ (Fixed (word 9) ∷ [])

-- the structure block and the strings block
abbrev pub pieces_of : Branch Piece → List Piece
pieces_of root = structure_pieces root ++ (Fixed (strings_block (template_names root)) ∷ [])

-- values stand inside an area of so many bytes
unfoldable pub AreInside : List Piece → ℕ → Type 0
AreInside [] area_len = Unit {0}
AreInside (piece ∷ pieces) area_len = IsInside piece area_len × AreInside pieces area_len

-- ---- their patterns

-- the property that holds the CRC, with 4 zero bytes in its place
abbrev pub crc_prop : List ℕ × Piece
crc_prop = (codes "bb,crc32", Fixed (0 ∷ 0 ∷ 0 ∷ 0 ∷ []))

-- a root with that property first
abbrev pub root_with_crc : List (List ℕ × Piece) → Forest Piece → Branch Piece
root_with_crc props nodes = record { name = []; props = crc_prop ∷ props; nodes = nodes }

-- the bytes before the CRC of a tree with such a root
abbrev pub front_of : Branch Piece → List ℕ
front_of root =
    header_text (length (reservation_list [])) (pieces_len (structure_pieces root))
    (length (strings_block (template_names root)))
    ++ (reservation_list []
    ++ (begin_text [] ++ prop_token_bytes (template_offset root) crc_prop))

-- the pieces after the CRC
abbrev pub pieces_behind_crc : Branch Piece → List Piece
pieces_behind_crc root = drop 3 (pieces_of root)

-- the pattern of a tree with such a root, over an area of so many bytes
abbrev pub pattern_of : Branch Piece → ℕ → Pattern
pattern_of root area_len = record {
  front = front_of root;
  pieces = pieces_behind_crc root;
  area_len = area_len;
}

-- a blob with its CRC in the place of the 4 bytes after the front
abbrev pub blob_with_crc : List ℕ → List ℕ
blob_with_crc blob =
    take front_len blob ++ (to_be_bytes w32 (crc_of blob) ++ drop head_len blob)

-- ---- their values alone

-- the values among pieces
abbrev pub values_among : List Piece → List Piece
values_among [] = []
values_among (Fixed bytes ∷ pieces) = values_among pieces
values_among (Value place ∷ pieces) = Value place ∷ values_among pieces

-- the values of a tree's properties, a node's before those of the nodes in it
abbrev pub tree_values : Forest Piece → List Piece
tree_values empty = []
tree_values (node name props nodes rest) =
    values_among (map (λ p. p.1) props) ++ (tree_values nodes ++ tree_values rest)
