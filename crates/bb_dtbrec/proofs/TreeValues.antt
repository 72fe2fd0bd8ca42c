-- Whether a tree has a pattern depends on its values alone.
use Rattle.std.proofs.Common.{◌≡◌, ℕ, ◌+◌, ◌&&◌, ◌||◌, List, [], ◌∷◌, ◌++◌, append-nil, map, refl, ap, ◌∙◌}
use Rattle.std.specs.Prelude.{nat_le}
use Rattle.std.specs.List.{flat_map}
use Rattle.bb_tree.specs.Node.{Branch, Forest, empty, grow, node}
use Rattle.bb_tree.specs.Blob.{word}
use Rattle.bb_dtbrec.specs.declared.piece.Piece.{Piece}
use Rattle.bb_dtbrec.specs.declared.piece.Piece.TheVariants.{Fixed, Value}
use Rattle.bb_dtbrec.specs.declared.piece.Place.{Place}
use Rattle.bb_dtbrec.specs.Dtb.{are_pieces, is_apart, is_size}
use Rattle.bb_dtbrec.specs.Trees.{nodes_pieces, pieces_behind_crc, pieces_of, prop_pieces, root_with_crc, structure_pieces, template_offset, tree_values, values_among}

apart_values : (place : Place) (pieces : List Piece) →
    is_apart place pieces ≡ is_apart place (values_among pieces)
unfolding is_apart
apart_values place [] = refl
apart_values place (Fixed bytes ∷ pieces) = apart_values place pieces
apart_values place (Value other ∷ pieces) =
    ap
    (λ b. (nat_le (place.at + place.size) other.at || nat_le (other.at + other.size) place.at) && b)
    (apart_values place pieces)

-- the values among pieces decide
pub are_values : (pieces : List Piece) (n : ℕ) →
    are_pieces pieces n ≡ are_pieces (values_among pieces) n
unfolding are_pieces
are_values [] n = refl
are_values (Fixed bytes ∷ pieces) n = are_values pieces n
are_values (Value place ∷ pieces) n =
    ap
    (λ b. (is_size place.spelling place.size && nat_le (place.at + place.size) n)
    && (b && are_pieces pieces n))
    (apart_values place pieces)
    ∙ ap
    (λ b. (is_size place.spelling place.size && nat_le (place.at + place.size) n)
    && (is_apart place (values_among pieces) && b))
    (are_values pieces n)

pub values-append : (xs ys : List Piece) →
    values_among (xs ++ ys) ≡ values_among xs ++ values_among ys
values-append [] ys = refl
values-append (Fixed bytes ∷ xs) ys = values-append xs ys
values-append (Value place ∷ xs) ys = ap (λ l. Value place ∷ l) (values-append xs ys)

values_of_props : (offset : List ℕ → ℕ) (props : List (List ℕ × Piece)) →
    values_among (flat_map (prop_pieces offset) props)
    ≡ values_among (map (λ (p : List ℕ × Piece). p.1) props)
values_of_props offset [] = refl
values_of_props offset ((name, Fixed bytes) ∷ ps) = values_of_props offset ps
values_of_props offset ((name, Value place) ∷ ps) =
    ap (λ l. Value place ∷ l) (values_of_props offset ps)

values_of_nodes : (offset : List ℕ → ℕ) (nodes : Forest Piece) →
    values_among (nodes_pieces offset nodes) ≡ tree_values nodes
values_of_nodes offset empty = refl
values_of_nodes offset (node name props nodes rest) =
    let own : List Piece = flat_map (prop_pieces offset) props in
    let inner : List Piece = nodes_pieces offset nodes in
    let ended : List Piece = Fixed (word 2) ∷ nodes_pieces offset rest in
    let values : List Piece = values_among (map (λ (p : List ℕ × Piece). p.1) props) in
    values-append own (inner ++ ended)
    ∙ ap (λ l. l ++ values_among (inner ++ ended)) (values_of_props offset props)
    ∙ ap (λ l. values ++ l)
    (values-append inner ended
    ∙ ap (λ l. l ++ values_among ended) (values_of_nodes offset nodes)
    ∙ ap (λ l. tree_values nodes ++ l) (values_of_nodes offset rest))

-- the values of a whole tree
pub values_of_pieces : (root : Branch Piece) →
    values_among (pieces_of root) ≡ tree_values (grow root empty)
values_of_pieces root =
    let nodes : List Piece = nodes_pieces (template_offset root) (grow root empty) in
    values-append (structure_pieces root) _
    ∙ append-nil (values_among (structure_pieces root))
    ∙ values-append nodes (Fixed (word 9) ∷ [])
    ∙ append-nil (values_among nodes)
    ∙ values_of_nodes (template_offset root) (grow root empty)

all_pieces : (props : List (List ℕ × Piece)) (nodes : Forest Piece) (n : ℕ) →
    are_pieces (pieces_behind_crc (root_with_crc props nodes)) n
    ≡ are_pieces (pieces_of (root_with_crc props nodes)) n
unfolding are_pieces
all_pieces props nodes n = refl

-- with the CRC first, the pieces after it are pieces if the tree's values are
pub tree_decides : (props : List (List ℕ × Piece)) (nodes : Forest Piece) (n : ℕ) →
    are_pieces (pieces_behind_crc (root_with_crc props nodes)) n
    ≡ are_pieces (tree_values (grow (root_with_crc props nodes) empty)) n
tree_decides props nodes n =
    let root : Branch Piece = root_with_crc props nodes in
    all_pieces props nodes n
    ∙ are_values (pieces_of root) n
    ∙ ap (λ l. are_pieces l n) (values_of_pieces root)
