-- Bytes that come in pieces, by computation alone: the areas are those of the worked records.
use Rattle.std.proofs.Common.{◌≡◌, List, [], ◌∷◌, drop, replicate, refl, Some, None}
use Rattle.bb_dtbrec.specs.declared.piece.Piece.{Piece}
use Rattle.bb_dtbrec.specs.declared.piece.Piece.TheVariants.{Fixed, Value}
use Rattle.bb_dtbrec.specs.declared.piece.Spelling.TheVariants.{ByteAsCell}
use Rattle.bb_dtbrec.specs.Feeding.{Area, read_slots, slots_down, slots_of, slots_up, slots_within}
use Rattle.bb_dtbrec.proofs.Examples.{sparse}

-- a number at 1, its last byte first, and a byte at 6
each_byte_has_a_slot : slots_of sparse ≡ Area 4 ∷ Area 3 ∷ Area 2 ∷ Area 1 ∷ Area 6 ∷ []
unfolding slots_of slots_up slots_down sparse
each_byte_has_a_slot = refl

the_first_two_bytes : read_slots (slots_of sparse) (4 ∷ 3 ∷ []) (replicate 8 0)
    ≡ Some (0 ∷ 0 ∷ 0 ∷ 3 ∷ 4 ∷ 0 ∷ 0 ∷ 0 ∷ [])
unfolding read_slots slots_of slots_up slots_down sparse
the_first_two_bytes = refl

the_other_three : read_slots (slots_within sparse 2) (2 ∷ 1 ∷ 5 ∷ [])
    (0 ∷ 0 ∷ 0 ∷ 3 ∷ 4 ∷ 0 ∷ 0 ∷ 0 ∷ [])
    ≡ Some (0 ∷ 1 ∷ 2 ∷ 3 ∷ 4 ∷ 0 ∷ 5 ∷ 0 ∷ [])
unfolding read_slots slots_of slots_up slots_down sparse
the_other_three = refl

what_follows_does_not_count : read_slots (drop 5 (slots_of sparse)) (7 ∷ []) (1 ∷ [])
    ≡ Some (1 ∷ [])
unfolding read_slots slots_of slots_up slots_down sparse
what_follows_does_not_count = refl

-- a byte as a cell, and two bytes that are always the same
cell : List Piece
cell = Value (record { at = 0; size = 1; spelling = ByteAsCell }) ∷ Fixed (8 ∷ 9 ∷ []) ∷ []

five : read_slots (slots_of cell) (0 ∷ 0 ∷ 0 ∷ 5 ∷ 8 ∷ []) (0 ∷ []) ≡ Some (5 ∷ [])
unfolding read_slots slots_of slots_up slots_down cell
five = refl

a_large_byte_is_refused : read_slots (slots_of cell) (0 ∷ 0 ∷ 1 ∷ []) (0 ∷ []) ≡ None
unfolding read_slots slots_of slots_up slots_down cell
a_large_byte_is_refused = refl

another_byte_is_refused : read_slots (slots_of cell) (0 ∷ 0 ∷ 0 ∷ 5 ∷ 8 ∷ 7 ∷ []) (0 ∷ []) ≡ None
unfolding read_slots slots_of slots_up slots_down cell
another_byte_is_refused = refl
