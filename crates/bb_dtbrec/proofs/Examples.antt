-- The worked record, by computation alone: of a state with one variable `a@0` of one byte. Its
-- bytes are those that dtc makes of the same tree, but for the CRC; fdtget reads the value.
use Rattle.std.proofs.Common.{◌≡◌, ℕ, List, [], ◌∷◌, ◌++◌, refl, Some, None, true, false, take}
use Rattle.bb_base.specs.Crc.{after_bit, after_eight_bits, after_byte}
use Rattle.bb_dtbrec.specs.declared.piece.Piece.{Piece}
use Rattle.bb_dtbrec.specs.declared.piece.Piece.TheVariants.{Fixed, Value}
use Rattle.bb_dtbrec.specs.declared.piece.Spelling.TheVariants.{ByteAsCell, NumberAsCell, AsIs}
use Rattle.bb_dtbrec.specs.Dtb.{Pattern, are_pieces, dtb_fits, dtb_passes, dtb_text, is_apart, is_pattern, pieces_len, pieces_text, with_fields}

-- header, no reservations, the root, and of `bb,crc32` all but the value
unfoldable pub front : List ℕ
front =
    208 ∷ 13 ∷ 254 ∷ 237 ∷ 0 ∷ 0 ∷ 0 ∷ 208 ∷ 0 ∷ 0 ∷ 0 ∷ 56 ∷ 0 ∷ 0 ∷ 0 ∷ 176 ∷ 0 ∷ 0 ∷ 0 ∷ 40 ∷
    0 ∷ 0 ∷ 0 ∷ 17 ∷ 0 ∷ 0 ∷ 0 ∷ 16 ∷ 0 ∷ 0 ∷ 0 ∷ 0 ∷ 0 ∷ 0 ∷ 0 ∷ 32 ∷ 0 ∷ 0 ∷ 0 ∷ 120 ∷ 0 ∷ 0 ∷
    0 ∷ 0 ∷ 0 ∷ 0 ∷ 0 ∷ 0 ∷ 0 ∷ 0 ∷ 0 ∷ 0 ∷ 0 ∷ 0 ∷ 0 ∷ 0 ∷ 0 ∷ 0 ∷ 0 ∷ 1 ∷ 0 ∷ 0 ∷ 0 ∷ 0 ∷ 0 ∷ 0 ∷
    0 ∷ 3 ∷ 0 ∷ 0 ∷ 0 ∷ 4 ∷ 0 ∷ 0 ∷ 0 ∷ 0 ∷ []

-- of the state node all but the value of its variable
unfoldable pub before_value : List ℕ
before_value =
    0 ∷ 0 ∷ 0 ∷ 1 ∷ 115 ∷ 116 ∷ 97 ∷ 116 ∷ 101 ∷ 0 ∷ 0 ∷ 0 ∷ 0 ∷ 0 ∷ 0 ∷ 3 ∷ 0 ∷ 0 ∷ 0 ∷ 14 ∷ 0 ∷
    0 ∷ 0 ∷ 9 ∷ 98 ∷ 97 ∷ 114 ∷ 101 ∷ 98 ∷ 111 ∷ 120 ∷ 44 ∷ 115 ∷ 116 ∷ 97 ∷ 116 ∷ 101 ∷ 0 ∷ 0 ∷
    0 ∷ 0 ∷ 0 ∷ 0 ∷ 3 ∷ 0 ∷ 0 ∷ 0 ∷ 4 ∷ 0 ∷ 0 ∷ 0 ∷ 20 ∷ 18 ∷ 52 ∷ 86 ∷ 120 ∷ 0 ∷ 0 ∷ 0 ∷ 1 ∷ 97 ∷
    64 ∷ 48 ∷ 0 ∷ 0 ∷ 0 ∷ 0 ∷ 3 ∷ 0 ∷ 0 ∷ 0 ∷ 4 ∷ 0 ∷ 0 ∷ 0 ∷ 26 ∷ []

-- the ends of three nodes and of the tokens, and the names of the properties
unfoldable pub after_value : List ℕ
after_value =
    0 ∷ 0 ∷ 0 ∷ 2 ∷ 0 ∷ 0 ∷ 0 ∷ 2 ∷ 0 ∷ 0 ∷ 0 ∷ 2 ∷ 0 ∷ 0 ∷ 0 ∷ 9 ∷ 98 ∷ 98 ∷ 44 ∷ 99 ∷ 114 ∷ 99 ∷
    51 ∷ 50 ∷ 0 ∷ 99 ∷ 111 ∷ 109 ∷ 112 ∷ 97 ∷ 116 ∷ 105 ∷ 98 ∷ 108 ∷ 101 ∷ 0 ∷ 109 ∷ 97 ∷ 103 ∷
    105 ∷ 99 ∷ 0 ∷ 118 ∷ 97 ∷ 108 ∷ 117 ∷ 101 ∷ 0 ∷ []

one_byte : Pattern
one_byte = record {
  front = front;
  pieces =
      Fixed before_value ∷ Value (record { at = 0; size = 1; spelling = ByteAsCell })
      ∷ Fixed after_value ∷ [];
  area_len = 1;
}

unfoldable pub worked : List ℕ
worked = front ++ (48 ∷ 60 ∷ 84 ∷ 164 ∷ (before_value ++ (0 ∷ 0 ∷ 0 ∷ 5 ∷ after_value)))

it_is_a_pattern : is_pattern one_byte ≡ true
unfolding after_byte after_eight_bits after_bit are_pieces is_apart pieces_len pieces_text with_fields front before_value after_value one_byte
it_is_a_pattern = refl

text_of_the_worked_area : dtb_text one_byte (5 ∷ []) ≡ worked
unfolding after_byte after_eight_bits after_bit are_pieces is_apart pieces_len pieces_text with_fields front before_value after_value one_byte worked
text_of_the_worked_area = refl

it_passes_whatever_follows : dtb_passes one_byte (worked ++ 1 ∷ 2 ∷ []) ≡ Some (5 ∷ [])
unfolding after_byte after_eight_bits after_bit are_pieces is_apart pieces_len pieces_text with_fields front before_value after_value one_byte worked
it_passes_whatever_follows = refl

cut_short_it_passes_nothing : dtb_passes one_byte (take 207 worked) ≡ None
unfolding after_byte after_eight_bits after_bit are_pieces is_apart pieces_len pieces_text with_fields front before_value after_value one_byte worked
cut_short_it_passes_nothing = refl

-- 261 isn't the value of one byte, whatever the CRC says
large : List ℕ
large = front ++ (180 ∷ 13 ∷ 77 ∷ 85 ∷ (before_value ++ (0 ∷ 0 ∷ 1 ∷ 5 ∷ after_value)))

a_large_byte_passes_nothing : dtb_passes one_byte large ≡ None
unfolding after_byte after_eight_bits after_bit are_pieces is_apart pieces_len pieces_text with_fields front before_value after_value one_byte large
a_large_byte_passes_nothing = refl

-- ---- which areas fit

-- an area of 8 bytes with a number and a byte as it is, and two bytes that no variable has
unfoldable pub sparse : List Piece
sparse =
    Value (record { at = 1; size = 4; spelling = NumberAsCell })
    ∷ Value (record { at = 6; size = 1; spelling = AsIs }) ∷ []

holey : Pattern
holey = record { front = front; pieces = sparse; area_len = 8 }

a_number_turns_round :
    pieces_text sparse (0 ∷ 1 ∷ 2 ∷ 3 ∷ 4 ∷ 0 ∷ 5 ∷ 0 ∷ []) ≡ 4 ∷ 3 ∷ 2 ∷ 1 ∷ 5 ∷ []
unfolding pieces_text sparse
a_number_turns_round = refl

zeros_between_fit : dtb_fits holey (0 ∷ 1 ∷ 2 ∷ 3 ∷ 4 ∷ 0 ∷ 5 ∷ 0 ∷ []) ≡ true
unfolding are_pieces is_apart pieces_len pieces_text with_fields front sparse holey
zeros_between_fit = refl

anything_else_between_does_not : dtb_fits holey (0 ∷ 1 ∷ 2 ∷ 3 ∷ 4 ∷ 9 ∷ 5 ∷ 0 ∷ []) ≡ false
unfolding are_pieces is_apart pieces_len pieces_text with_fields front sparse holey
anything_else_between_does_not = refl
