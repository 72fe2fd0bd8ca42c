-- The record of a tree's pattern is the tree's blob with its CRC.
use Rattle.std.proofs.Common.{◌≡◌, ℕ, true, List, [], ◌∷◌, ◌++◌, drop, length, refl, sym, ap, ◌∙◌, append_assoc, arith, length-append}
use Rattle.std.specs.Int.{w32, to_be_bytes}
use Rattle.std.proofs.lemmas.List.{drop_at, take_at}
use Rattle.bb_base.specs.Crc.{crc_of}
use Rattle.bb_tree.specs.Node.{Branch, Forest}
use Rattle.bb_tree.specs.Blob.{begin_text, blob_text, double_word, header_text, names_used, offset_of, reservation_list, strings_block, structure_block, word}
use Rattle.bb_dtbrec.specs.declared.piece.Piece.{Piece}
use Rattle.bb_dtbrec.specs.Dtb.{are_pieces, dtb_length, dtb_text, is_pattern, pieces_len, pieces_text}
use Rattle.bb_dtbrec.specs.Pieces.{length_pieces_text}
use Rattle.bb_dtbrec.specs.Laws.{sound}
use Rattle.bb_dtbrec.specs.Trees.{AreInside, blob_with_crc, crc_prop, devicetree_at, front_of, pattern_of, pieces_behind_crc, pieces_of, prop_token_bytes, root_with_crc, structure_pieces, template_names, template_offset, tree_at}
use Rattle.bb_dtbrec.proofs.TreeTexts.{all_inside, length_all_inside, names_at, pieces_of_text, structure_inside, structure_pieces_text}

-- the header, no reservations, and the text of all pieces
pub blob_pieces : (root : Branch Piece) (area : List ℕ) → AreInside (pieces_of root) (length area) →
    blob_text (devicetree_at area root)
    ≡ header_text (length (reservation_list [])) (pieces_len (structure_pieces root))
    (length (strings_block (template_names root)))
    ++ (reservation_list [] ++ pieces_text (pieces_of root) area)
unfolding blob_text
blob_pieces root area h =
    let pairs : List ℕ = reservation_list [] in
    let tree : Branch (List ℕ) = tree_at area root in
    let structure : List ℕ = structure_block (offset_of (names_used tree)) tree in
    let strings : List ℕ = strings_block (names_used tree) in
    let in_structure : AreInside (structure_pieces root) (length area) =
    structure_inside root (length area) h in
    let same : length structure ≡ pieces_len (structure_pieces root) =
    ap length (sym (structure_pieces_text root area in_structure))
    ∙ length_all_inside (structure_pieces root) area in_structure in
    ap (λ n. header_text (length pairs) n (length strings) ++ (pairs ++ (structure ++ strings)))
    same
    ∙ ap
    (λ names. header_text (length pairs) (pieces_len (structure_pieces root))
    (length (strings_block names))
    ++ (pairs ++ (structure ++ strings)))
    (names_at area root)
    ∙ ap
    (λ l. header_text (length pairs) (pieces_len (structure_pieces root))
    (length (strings_block (template_names root)))
    ++ (pairs ++ l))
    (sym (pieces_of_text root area h))

-- ---- a root whose first property holds the CRC

-- its first three pieces
first_pieces : (props : List (List ℕ × Piece)) (nodes : Forest Piece) (area : List ℕ) →
    pieces_text (pieces_of (root_with_crc props nodes)) area
    ≡ begin_text []
    ++ (prop_token_bytes (template_offset (root_with_crc props nodes)) crc_prop
    ++ ((0 ∷ 0 ∷ 0 ∷ 0 ∷ []) ++ pieces_text (pieces_behind_crc (root_with_crc props nodes)) area))
unfolding pieces_text
first_pieces props nodes area = refl

four_parts : (a b c d rest : List ℕ) →
    a ++ (b ++ (c ++ (d ++ rest))) ≡ (a ++ (b ++ (c ++ d))) ++ rest
four_parts a b c d rest =
    ap (λ l. a ++ (b ++ l)) (sym (append_assoc c d rest))
    ∙ ap (λ l. a ++ l) (sym (append_assoc b (c ++ d) rest))
    ∙ sym (append_assoc a (b ++ (c ++ d)) rest)

-- what counts as pieces after the CRC does so before it too
pub inside_before : (props : List (List ℕ × Piece)) (nodes : Forest Piece) (n : ℕ) →
    are_pieces (pieces_behind_crc (root_with_crc props nodes)) n ≡ true →
    AreInside (pieces_of (root_with_crc props nodes)) n
unfolding are_pieces
inside_before props nodes n h = all_inside (pieces_of (root_with_crc props nodes)) n h

-- the blob is the front, 4 zero bytes and the text of the pieces after them
pub blob_at : (props : List (List ℕ × Piece)) (nodes : Forest Piece) (area : List ℕ) →
    are_pieces (pieces_behind_crc (root_with_crc props nodes)) (length area) ≡ true →
    blob_text (devicetree_at area (root_with_crc props nodes))
    ≡ front_of (root_with_crc props nodes)
    ++ ((0 ∷ 0 ∷ 0 ∷ 0 ∷ []) ++ pieces_text (pieces_behind_crc (root_with_crc props nodes)) area)
blob_at props nodes area h =
    let root : Branch Piece = root_with_crc props nodes in
    let header : List ℕ =
    header_text (length (reservation_list [])) (pieces_len (structure_pieces root))
    (length (strings_block (template_names root))) in
    let token : List ℕ = prop_token_bytes (template_offset root) crc_prop in
    blob_pieces root area (inside_before props nodes (length area) h)
    ∙ ap (λ l. header ++ (reservation_list [] ++ l)) (first_pieces props nodes area)
    ∙ four_parts header (reservation_list []) (begin_text []) token
    ((0 ∷ 0 ∷ 0 ∷ 0 ∷ []) ++ pieces_text (pieces_behind_crc root) area)

pub length_front : (root : Branch Piece) → length (front_of root) ≡ 76
unfolding word double_word
length_front root = refl

-- the parts of a blob
with_crc : (front pieces : List ℕ) → length front ≡ 76 →
    blob_with_crc (front ++ ((0 ∷ 0 ∷ 0 ∷ 0 ∷ []) ++ pieces))
    ≡ front
    ++ (to_be_bytes w32 (crc_of (front ++ ((0 ∷ 0 ∷ 0 ∷ 0 ∷ []) ++ pieces))) ++ pieces)
with_crc front pieces e =
    let zeros : List ℕ = 0 ∷ 0 ∷ 0 ∷ 0 ∷ [] in
    let crc : List ℕ = to_be_bytes w32 (crc_of (front ++ (zeros ++ pieces))) in
    let four : length (front ++ zeros) ≡ 80 = omega (arith, length-append front zeros) in
    ap (λ l. l ++ (crc ++ drop 80 (front ++ (zeros ++ pieces))))
    (take_at front (zeros ++ pieces) 76 e)
    ∙ ap (λ l. front ++ (crc ++ l))
    (ap (drop 80) (sym (append_assoc front zeros pieces)) ∙ drop_at (front ++ zeros) pieces 80 four)

-- the record is the blob with its CRC
pub record_is_blob : (props : List (List ℕ × Piece)) (nodes : Forest Piece) (area : List ℕ) →
    is_pattern (pattern_of (root_with_crc props nodes) (length area)) ≡ true →
    dtb_text (pattern_of (root_with_crc props nodes) (length area)) area
    ≡ blob_with_crc (blob_text (devicetree_at area (root_with_crc props nodes)))
record_is_blob props nodes area h =
    let root : Branch Piece = root_with_crc props nodes in
    let pieces : List ℕ = pieces_text (pieces_behind_crc root) area in
    let are = (sound (pattern_of root (length area)) h).pieces in
    sym (with_crc (front_of root) pieces (length_front root))
    ∙ ap blob_with_crc (sym (blob_at props nodes area are))

-- and has its length
pub length_blob_at : (props : List (List ℕ × Piece)) (nodes : Forest Piece) (area : List ℕ) →
    are_pieces (pieces_behind_crc (root_with_crc props nodes)) (length area) ≡ true →
    length (blob_text (devicetree_at area (root_with_crc props nodes)))
    ≡ dtb_length (pattern_of (root_with_crc props nodes) (length area))
length_blob_at props nodes area h =
    let root : Branch Piece = root_with_crc props nodes in
    let front : List ℕ = front_of root in
    let pieces : List ℕ = pieces_text (pieces_behind_crc root) area in
    let zeros : List ℕ = 0 ∷ 0 ∷ 0 ∷ 0 ∷ [] in
    let whole : length (blob_text (devicetree_at area root)) ≡ length (front ++ (zeros ++ pieces)) =
    ap length (blob_at props nodes area h) in
    omega (
      arith,
      whole,
      length-append front (zeros ++ pieces),
      length_front root,
      length_pieces_text (pieces_behind_crc root) area h,
    )
