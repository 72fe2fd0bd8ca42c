-- The blob of a tree at an area is a front, 4 zero bytes and the text of pieces.
use Rattle.std.proofs.Common.{◌≡◌, ℕ, true, List, [], ◌∷◌, ◌++◌, length, map, fold, refl, sym, ap, ◌∙◌, append_assoc, append-nil, arith, length-append}
use Rattle.std.specs.List.{flat_map}
use Rattle.std.proofs.lemmas.Bool.{and_parts, leb-true}
use Rattle.bb_tree.specs.Node.{Branch, Forest, empty, grow, node, with_values_of}
use Rattle.bb_tree.specs.Blob.{begin_text, filling, names_used, nodes_text, offset_of, prop_names, prop_text, strings_block, structure_block, with_name, word}
use Rattle.bb_dtbrec.specs.declared.piece.Piece.{Piece}
use Rattle.bb_dtbrec.specs.declared.piece.Piece.TheVariants.{Fixed, Value}
use Rattle.bb_dtbrec.specs.Dtb.{IsInside, are_pieces, field_len, piece_len, piece_text, pieces_len, pieces_text}
use Rattle.bb_dtbrec.specs.Pieces.{length_field_of, length_value_at, others_too}
use Rattle.bb_dtbrec.specs.Trees.{AreInside, nodes_pieces, pieces_of, prop_pieces, structure_pieces, template_names, template_offset, tree_at}

-- ---- pieces that stand inside

-- what counts as pieces stands inside
pub all_inside : (pieces : List Piece) (n : ℕ) → are_pieces pieces n ≡ true → AreInside pieces n
unfolding AreInside are_pieces
all_inside [] n h = tt
all_inside (Fixed bytes ∷ pieces) n h = (tt, all_inside pieces n h)
all_inside (Value place ∷ pieces) n h = (
  leb-true _ _ (and_parts _ _ (and_parts _ _ h).0).1,
  all_inside pieces n (others_too (Value place) pieces n h),
)

front_inside : (xs ys : List Piece) (n : ℕ) → AreInside (xs ++ ys) n → AreInside xs n
unfolding AreInside
front_inside [] ys n h = tt
front_inside (x ∷ xs) ys n h = (h.0, front_inside xs ys n h.1)

rest_inside : (xs ys : List Piece) (n : ℕ) → AreInside (xs ++ ys) n → AreInside ys n
unfolding AreInside
rest_inside [] ys n h = h
rest_inside (x ∷ xs) ys n h = rest_inside xs ys n h.1

-- a value that stands inside has its length over each area
pub length_inside : (piece : Piece) (area : List ℕ) → IsInside piece (length area) →
    length (piece_text piece area) ≡ piece_len piece
length_inside (Fixed bytes) area h = refl
length_inside (Value place) area h =
    length_field_of place.spelling _
    ∙ ap (field_len place.spelling) (length_value_at place area h)

pub length_all_inside : (pieces : List Piece) (area : List ℕ) → AreInside pieces (length area) →
    length (pieces_text pieces area) ≡ pieces_len pieces
unfolding AreInside pieces_text pieces_len
length_all_inside [] area h = refl
length_all_inside (piece ∷ pieces) area h =
    omega (
      arith,
      length-append (piece_text piece area) (pieces_text pieces area),
      length_inside piece area h.0,
      length_all_inside pieces area h.1,
    )

pieces_text-nil : (area : List ℕ) → pieces_text [] area ≡ []
unfolding pieces_text
pieces_text-nil area = refl

pieces_text-step : (piece : Piece) (pieces : List Piece) (area : List ℕ) →
    pieces_text (piece ∷ pieces) area ≡ piece_text piece area ++ pieces_text pieces area
unfolding pieces_text
pieces_text-step piece pieces area = refl

one_piece_text : (bytes area : List ℕ) → pieces_text (Fixed bytes ∷ []) area ≡ bytes
unfolding pieces_text
one_piece_text bytes area = append-nil bytes

inside_behind : (piece : Piece) (pieces : List Piece) (n : ℕ) →
    AreInside (piece ∷ pieces) n → AreInside pieces n
unfolding AreInside
inside_behind piece pieces n h = h.1

pub pieces_text-append : (xs ys : List Piece) (area : List ℕ) →
    pieces_text (xs ++ ys) area ≡ pieces_text xs area ++ pieces_text ys area
unfolding pieces_text
pieces_text-append [] ys area = refl
pieces_text-append (x ∷ xs) ys area =
    ap (λ l. piece_text x area ++ l) (pieces_text-append xs ys area)
    ∙ sym (append_assoc (piece_text x area) (pieces_text xs area) (pieces_text ys area))

-- ---- the names don't depend on the values

names_of_props : (f g : Piece → List ℕ) (props : List (List ℕ × Piece)) →
    map (λ (p : List ℕ × List ℕ). p.0) (map (λ (p : List ℕ × Piece). (p.0, f p.1)) props)
    ≡ map (λ (p : List ℕ × List ℕ). p.0) (map (λ (p : List ℕ × Piece). (p.0, g p.1)) props)
names_of_props f g [] = refl
names_of_props f g (p ∷ ps) = ap (λ l. p.0 ∷ l) (names_of_props f g ps)

pub same_names : (f g : Piece → List ℕ) (nodes : Forest Piece) →
    prop_names (with_values_of f nodes) ≡ prop_names (with_values_of g nodes)
same_names f g empty = refl
same_names f g (node name props nodes rest) =
    ap (λ l. l ++ (prop_names (with_values_of f nodes) ++ prop_names (with_values_of f rest)))
    (names_of_props f g props)
    ∙ ap
    (λ l. map (λ (p : List ℕ × List ℕ). p.0) (map (λ (p : List ℕ × Piece). (p.0, g p.1)) props)
    ++ (l ++ prop_names (with_values_of f rest)))
    (same_names f g nodes)
    ∙ ap
    (λ l. map (λ (p : List ℕ × List ℕ). p.0) (map (λ (p : List ℕ × Piece). (p.0, g p.1)) props)
    ++ (prop_names (with_values_of g nodes) ++ l))
    (same_names f g rest)

-- the names over each area are those of the template
pub names_at : (area : List ℕ) (root : Branch Piece) →
    names_used (tree_at area root) ≡ template_names root
names_at area root =
    ap (fold with_name [])
    (same_names (λ p. piece_text p area) (λ p. piece_text p []) (grow root empty))

-- ---- the structure block

prop_pieces_text : (offset : List ℕ → ℕ) (p : List ℕ × Piece) (area : List ℕ) →
    AreInside (prop_pieces offset p) (length area) →
    pieces_text (prop_pieces offset p) area ≡ prop_text offset (p.0, piece_text p.1 area)
unfolding pieces_text AreInside
prop_pieces_text offset p area h =
    let value : List ℕ = piece_text p.1 area in
    let len : List ℕ = word (piece_len p.1) in
    let at : List ℕ = word (offset p.0) in
    let fill : List ℕ = filling (piece_len p.1) in
    append_assoc (word 3) (len ++ at) (value ++ (fill ++ []))
    ∙ ap (λ l. word 3 ++ l) (append_assoc len at (value ++ (fill ++ [])))
    ∙ ap (λ l. word 3 ++ (len ++ (at ++ (value ++ l)))) (append-nil fill)
    ∙ ap (λ n. word 3 ++ (word n ++ (at ++ (value ++ filling n))))
    (sym (length_inside p.1 area h.1.0))

props_pieces_text : (offset : List ℕ → ℕ) (props : List (List ℕ × Piece)) (area : List ℕ) →
    AreInside (flat_map (prop_pieces offset) props) (length area) →
    pieces_text (flat_map (prop_pieces offset) props) area
    ≡ flat_map (prop_text offset)
    (map (λ (p : List ℕ × Piece). (p.0, piece_text p.1 area)) props)
props_pieces_text offset [] area h = pieces_text-nil area
props_pieces_text offset (p ∷ ps) area h =
    let own : List Piece = prop_pieces offset p in
    let behind : List Piece = flat_map (prop_pieces offset) ps in
    pieces_text-append own behind area
    ∙ ap (λ l. l ++ pieces_text behind area)
    (prop_pieces_text offset p area (front_inside own behind (length area) h))
    ∙ ap (λ l. prop_text offset (p.0, piece_text p.1 area) ++ l)
    (props_pieces_text offset ps area (rest_inside own behind (length area) h))

pub nodes_pieces_text : (offset : List ℕ → ℕ) (nodes : Forest Piece) (area : List ℕ) →
    AreInside (nodes_pieces offset nodes) (length area) →
    pieces_text (nodes_pieces offset nodes) area
    ≡ nodes_text offset (with_values_of (λ piece. piece_text piece area) nodes)
nodes_pieces_text offset empty area h = pieces_text-nil area
nodes_pieces_text offset (node name props nodes rest) area h =
    let n : ℕ = length area in
    let render : Piece → List ℕ = λ piece. piece_text piece area in
    let own : List Piece = flat_map (prop_pieces offset) props in
    let inner : List Piece = nodes_pieces offset nodes in
    let after : List Piece = nodes_pieces offset rest in
    let ended : List Piece = Fixed (word 2) ∷ after in
    let in_props : AreInside (own ++ (inner ++ ended)) n =
    inside_behind (Fixed (begin_text name)) (own ++ (inner ++ ended)) n h in
    let in_nodes : AreInside (inner ++ ended) n = rest_inside own (inner ++ ended) n in_props in
    let in_rest : AreInside after n =
    inside_behind (Fixed (word 2)) after n (rest_inside inner ended n in_nodes) in
    let texts : List ℕ =
    flat_map (prop_text offset) (map (λ (p : List ℕ × Piece). (p.0, piece_text p.1 area)) props) in
    pieces_text-step (Fixed (begin_text name)) (own ++ (inner ++ ended)) area
    ∙ ap (λ l. begin_text name ++ l)
    (pieces_text-append own (inner ++ ended) area
    ∙ ap (λ l. l ++ pieces_text (inner ++ ended) area)
    (props_pieces_text offset props area (front_inside own (inner ++ ended) n in_props))
    ∙ ap (λ l. texts ++ l)
    (pieces_text-append inner ended area
    ∙ ap (λ l. l ++ pieces_text ended area)
    (nodes_pieces_text offset nodes area (front_inside inner ended n in_nodes))
    ∙ ap (λ l. nodes_text offset (with_values_of render nodes) ++ l)
    (pieces_text-step (Fixed (word 2)) after area
    ∙ ap (λ l. word 2 ++ l) (nodes_pieces_text offset rest area in_rest))))

-- the structure block over an area
pub structure_pieces_text : (root : Branch Piece) (area : List ℕ) →
    AreInside (structure_pieces root) (length area) →
    pieces_text (structure_pieces root) area
    ≡ structure_block (offset_of (names_used (tree_at area root))) (tree_at area root)
structure_pieces_text root area h =
    let offset : List ℕ → ℕ = template_offset root in
    let nodes : List Piece = nodes_pieces offset (grow root empty) in
    let end : List Piece = Fixed (word 9) ∷ [] in
    pieces_text-append nodes end area
    ∙ ap (λ l. l ++ pieces_text end area)
    (nodes_pieces_text offset (grow root empty) area (front_inside nodes end (length area) h))
    ∙ ap (λ l. nodes_text offset (grow (tree_at area root) empty) ++ l)
    (one_piece_text (word 9) area)
    ∙ ap (λ names. structure_block (offset_of names) (tree_at area root)) (sym (names_at area root))

-- the structure block and the strings block over an area
pub pieces_of_text : (root : Branch Piece) (area : List ℕ) →
    AreInside (pieces_of root) (length area) →
    pieces_text (pieces_of root) area
    ≡ structure_block (offset_of (names_used (tree_at area root))) (tree_at area root)
    ++ strings_block (names_used (tree_at area root))
pieces_of_text root area h =
    let structure : List Piece = structure_pieces root in
    let strings : List Piece = Fixed (strings_block (template_names root)) ∷ [] in
    let before : List ℕ =
    structure_block (offset_of (names_used (tree_at area root))) (tree_at area root) in
    pieces_text-append structure strings area
    ∙ ap (λ l. l ++ pieces_text strings area)
    (structure_pieces_text root area (front_inside structure strings (length area) h))
    ∙ ap (λ l. before ++ l)
    (one_piece_text (strings_block (template_names root)) area
    ∙ ap strings_block (sym (names_at area root)))

pub structure_inside : (root : Branch Piece) (n : ℕ) → AreInside (pieces_of root) n →
    AreInside (structure_pieces root) n
structure_inside root n h =
    front_inside (structure_pieces root) (Fixed (strings_block (template_names root)) ∷ []) n h
