-- The worked record as a tree, by computation alone: its blob, but for the CRC, and the record of
-- its pattern.
use Rattle.std.proofs.Common.{◌≡◌, ℕ, true, List, [], ◌∷◌, ◌++◌, codes, refl}
use Rattle.bb_base.specs.Crc.{after_bit, after_eight_bits, after_byte}
use Rattle.bb_tree.specs.Node.{Branch, empty, node}
use Rattle.bb_tree.specs.Blob.{blob_text, double_word, word}
use Rattle.bb_dtbrec.specs.declared.piece.Piece.{Piece}
use Rattle.bb_dtbrec.specs.declared.piece.Piece.TheVariants.{Fixed, Value}
use Rattle.bb_dtbrec.specs.declared.piece.Spelling.TheVariants.{AsIs, ByteAsCell, NumberAsCell}
use Rattle.bb_dtbrec.specs.Dtb.{are_pieces, dtb_text, is_apart, is_pattern, pieces_len, pieces_text}
use Rattle.bb_dtbrec.specs.Trees.{devicetree_at, pattern_of, root_with_crc}
use Rattle.bb_dtbrec.proofs.Examples.{after_value, before_value, front, worked}

-- a state with one variable `a@0` of one byte
unfoldable pub one_byte_tree : Branch Piece
one_byte_tree = root_with_crc []
    (node (codes "state")
    ((codes "compatible", Fixed (codes "barebox,state" ++ 0 ∷ []))
    ∷ (codes "magic", Fixed (18 ∷ 52 ∷ 86 ∷ 120 ∷ [])) ∷ [])
    (node (codes "a@0")
    ((codes "value", Value (record { at = 0; size = 1; spelling = ByteAsCell })) ∷ [])
    empty empty)
    empty)

its_blob :
    blob_text (devicetree_at (5 ∷ []) one_byte_tree)
    ≡ front ++ (0 ∷ 0 ∷ 0 ∷ 0 ∷ (before_value ++ (0 ∷ 0 ∷ 0 ∷ 5 ∷ after_value)))
unfolding blob_text word double_word front before_value after_value one_byte_tree
its_blob = refl

its_record : dtb_text (pattern_of one_byte_tree 1) (5 ∷ []) ≡ worked
unfolding after_byte after_eight_bits after_bit pieces_len pieces_text word double_word front before_value after_value worked one_byte_tree
its_record = refl

-- ---- a number, and a string whose bytes don't fill words, in a node of nodes

two_names : Branch Piece
two_names = root_with_crc []
    (node (codes "state") ((codes "magic", Fixed (18 ∷ 52 ∷ 86 ∷ 120 ∷ [])) ∷ [])
    (node (codes "group") []
    (node (codes "n@0")
    ((codes "value", Value (record { at = 0; size = 4; spelling = NumberAsCell })) ∷ [])
    empty
    (node (codes "s@4")
    ((codes "value", Value (record { at = 4; size = 5; spelling = AsIs })) ∷ [])
    empty empty))
    empty)
    empty)

-- what dtc makes of it, the number being 0x04030201 and the string `Hi`
from_dtc : List ℕ
from_dtc =
    208 ∷ 13 ∷ 254 ∷ 237 ∷ 0 ∷ 0 ∷ 0 ∷ 217 ∷ 0 ∷ 0 ∷ 0 ∷ 56 ∷ 0 ∷ 0 ∷ 0 ∷ 196 ∷ 0 ∷ 0 ∷ 0 ∷ 40 ∷
    0 ∷ 0 ∷ 0 ∷ 17 ∷ 0 ∷ 0 ∷ 0 ∷ 16 ∷ 0 ∷ 0 ∷ 0 ∷ 0 ∷ 0 ∷ 0 ∷ 0 ∷ 21 ∷ 0 ∷ 0 ∷ 0 ∷ 140 ∷ 0 ∷ 0 ∷
    0 ∷ 0 ∷ 0 ∷ 0 ∷ 0 ∷ 0 ∷ 0 ∷ 0 ∷ 0 ∷ 0 ∷ 0 ∷ 0 ∷ 0 ∷ 0 ∷ 0 ∷ 0 ∷ 0 ∷ 1 ∷ 0 ∷ 0 ∷ 0 ∷ 0 ∷ 0 ∷ 0 ∷
    0 ∷ 3 ∷ 0 ∷ 0 ∷ 0 ∷ 4 ∷ 0 ∷ 0 ∷ 0 ∷ 0 ∷ 0 ∷ 0 ∷ 0 ∷ 0 ∷ 0 ∷ 0 ∷ 0 ∷ 1 ∷ 115 ∷ 116 ∷ 97 ∷ 116 ∷
    101 ∷ 0 ∷ 0 ∷ 0 ∷ 0 ∷ 0 ∷ 0 ∷ 3 ∷ 0 ∷ 0 ∷ 0 ∷ 4 ∷ 0 ∷ 0 ∷ 0 ∷ 9 ∷ 18 ∷ 52 ∷ 86 ∷ 120 ∷ 0 ∷ 0 ∷
    0 ∷ 1 ∷ 103 ∷ 114 ∷ 111 ∷ 117 ∷ 112 ∷ 0 ∷ 0 ∷ 0 ∷ 0 ∷ 0 ∷ 0 ∷ 1 ∷ 110 ∷ 64 ∷ 48 ∷ 0 ∷ 0 ∷ 0 ∷
    0 ∷ 3 ∷ 0 ∷ 0 ∷ 0 ∷ 4 ∷ 0 ∷ 0 ∷ 0 ∷ 15 ∷ 4 ∷ 3 ∷ 2 ∷ 1 ∷ 0 ∷ 0 ∷ 0 ∷ 2 ∷ 0 ∷ 0 ∷ 0 ∷ 1 ∷ 115 ∷
    64 ∷ 52 ∷ 0 ∷ 0 ∷ 0 ∷ 0 ∷ 3 ∷ 0 ∷ 0 ∷ 0 ∷ 5 ∷ 0 ∷ 0 ∷ 0 ∷ 15 ∷ 72 ∷ 105 ∷ 0 ∷ 0 ∷ 0 ∷ 0 ∷ 0 ∷
    0 ∷ 0 ∷ 0 ∷ 0 ∷ 2 ∷ 0 ∷ 0 ∷ 0 ∷ 2 ∷ 0 ∷ 0 ∷ 0 ∷ 2 ∷ 0 ∷ 0 ∷ 0 ∷ 2 ∷ 0 ∷ 0 ∷ 0 ∷ 9 ∷ 98 ∷ 98 ∷
    44 ∷ 99 ∷ 114 ∷ 99 ∷ 51 ∷ 50 ∷ 0 ∷ 109 ∷ 97 ∷ 103 ∷ 105 ∷ 99 ∷ 0 ∷ 118 ∷ 97 ∷ 108 ∷ 117 ∷ 101 ∷
    0 ∷ []

both_names :
    blob_text (devicetree_at (1 ∷ 2 ∷ 3 ∷ 4 ∷ 72 ∷ 105 ∷ 0 ∷ 0 ∷ 0 ∷ []) two_names) ≡ from_dtc
unfolding blob_text word double_word two_names from_dtc
both_names = refl

they_have_a_pattern : is_pattern (pattern_of two_names 9) ≡ true
unfolding are_pieces is_apart pieces_len word double_word two_names
they_have_a_pattern = refl
