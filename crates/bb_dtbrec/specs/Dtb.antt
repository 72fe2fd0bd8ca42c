-- The record that is a blob of its own, a flattened devicetree with a CRC (barebox User Manual,
-- State Framework, the backend type `dtb`). Of one layout all records have the same bytes but for
-- the CRC and the values of variables, whose places and lengths are fixed: a pattern.
--
--   bytes     field
--   0 to 75   the front: header, reservations, and the tokens up to the value of `bb,crc32`
--   76 to 79  CRC-32 of the whole record in which these 4 bytes are zero, big endian
--   80 on     the pieces, one after another: bytes that are always the same, and values
use Rattle.std.specs.Prelude.{ℕ, ◌+◌, ◌≤◌, ◌==◌, Bool, true, false, ◌&&◌, ◌||◌, List, [], ◌∷◌, ◌++◌, length, take, drop, reverse, replicate, nat_le, nat_eq, Option, Some, None, IsTrue, if◌then◌else◌}
use Rattle.std.specs.Int.{w32, to_be_bytes}
use Rattle.std.specs.List.{starts_with}
use Rattle.std.specs.Str.{bytes_eq}
use Rattle.bb_base.specs.Crc.{crc_of}
use Rattle.bb_base.specs.Form.{Form, area_limit}
use Rattle.bb_dtbrec.specs.declared.piece.Piece.{Piece}
use Rattle.bb_dtbrec.specs.declared.piece.Piece.TheVariants.{Fixed, Value}
use Rattle.bb_dtbrec.specs.declared.piece.Place.{Place}
use Rattle.bb_dtbrec.specs.declared.piece.Spelling.{Spelling}
use Rattle.bb_dtbrec.specs.declared.piece.Spelling.TheVariants.{ByteAsCell, NumberAsCell, AsIs}

-- what all records of one layout have in common
pub record Pattern : Type 0 where
  pub front : List ℕ
  pub pieces : List Piece
  pub area_len : ℕ

-- how many bytes the front has, and how many stand before the pieces
abbrev pub front_len : ℕ
front_len = 76

abbrev pub head_len : ℕ
head_len = 80

-- ---- a value

-- The field of a value. A number is little endian in the area, and big endian in its cell.
abbrev pub field_of : Spelling → List ℕ → List ℕ
field_of ByteAsCell value = 0 ∷ 0 ∷ 0 ∷ value
field_of NumberAsCell value = reverse value
field_of AsIs value = value

-- the value that a field spells
abbrev pub field_value : Spelling → List ℕ → List ℕ
field_value ByteAsCell field = drop 3 field
field_value NumberAsCell field = reverse field
field_value AsIs field = field

-- how many bytes the field of a value has that has so many
abbrev pub field_len : Spelling → ℕ → ℕ
field_len ByteAsCell size = 3 + size
field_len NumberAsCell size = size
field_len AsIs size = size

-- a value of so many bytes can be spelt so
abbrev pub is_size : Spelling → ℕ → Bool
is_size ByteAsCell size = size == 1
is_size NumberAsCell size = size == 4
is_size AsIs size = true

-- the bytes of an area at a place, and the area with others there
abbrev pub value_at : Place → List ℕ → List ℕ
value_at place area = take place.size (drop place.at area)

abbrev pub with_field : Place → List ℕ → List ℕ → List ℕ
with_field place value area = take place.at area ++ (value ++ drop (place.at + place.size) area)

-- ---- what is written

abbrev pub piece_text : Piece → List ℕ → List ℕ
piece_text (Fixed bytes) area = bytes
piece_text (Value place) area = field_of place.spelling (value_at place area)

abbrev pub piece_len : Piece → ℕ
piece_len (Fixed bytes) = length bytes
piece_len (Value place) = field_len place.spelling place.size

-- the pieces, one after another
unfoldable pub pieces_text : List Piece → List ℕ → List ℕ
pieces_text [] area = []
pieces_text (piece ∷ pieces) area = piece_text piece area ++ pieces_text pieces area

unfoldable pub pieces_len : List Piece → ℕ
pieces_len [] = 0
pieces_len (piece ∷ pieces) = piece_len piece + pieces_len pieces

-- the CRC of a record with this front and these pieces: its own bytes count as zeros
abbrev pub crc_text : List ℕ → List ℕ → List ℕ
crc_text front pieces = front ++ ((0 ∷ 0 ∷ 0 ∷ 0 ∷ []) ++ pieces)

abbrev pub record_crc : List ℕ → List ℕ → ℕ
record_crc front pieces = crc_of (crc_text front pieces)

-- a front, the CRC, and the pieces
abbrev pub record_text : List ℕ → List ℕ → List ℕ
record_text front pieces = front ++ (to_be_bytes w32 (record_crc front pieces) ++ pieces)

-- the record of an area
abbrev pub dtb_text : Pattern → List ℕ → List ℕ
dtb_text pattern area = record_text pattern.front (pieces_text pattern.pieces area)

-- how many bytes it has
abbrev pub dtb_length : Pattern → ℕ
dtb_length pattern = head_len + pieces_len pattern.pieces

-- ---- patterns

-- a value stands inside an area of so many bytes
abbrev pub IsInside : Piece → ℕ → Type 0
IsInside (Fixed bytes) area_len = Unit {0}
IsInside (Value place) area_len = place.at + place.size ≤ area_len

-- a variable shares no byte with those of these pieces
unfoldable pub is_apart : Place → List Piece → Bool
is_apart place [] = true
is_apart place (Fixed bytes ∷ pieces) = is_apart place pieces
is_apart place (Value other ∷ pieces) =
    (nat_le (place.at + place.size) other.at || nat_le (other.at + other.size) place.at)
    && is_apart place pieces

-- values have sizes that can be spelt, stand inside an area of so many bytes, and share none
unfoldable pub are_pieces : List Piece → ℕ → Bool
are_pieces [] area_len = true
are_pieces (Fixed bytes ∷ pieces) area_len = are_pieces pieces area_len
are_pieces (Value place ∷ pieces) area_len =
    (is_size place.spelling place.size && nat_le (place.at + place.size) area_len)
    && (is_apart place pieces && are_pieces pieces area_len)

-- The CRC stands at byte 76, the area isn't too long, and the record has a length of 32 bits.
abbrev pub is_pattern : Pattern → Bool
is_pattern pattern =
    (length pattern.front == front_len && nat_le pattern.area_len area_limit)
    && (nat_le (dtb_length pattern) 0xffffffff && are_pieces pattern.pieces pattern.area_len)

abbrev pub IsPattern : Pattern → Type 0
IsPattern pattern = IsTrue (is_pattern pattern)

-- ---- what passes

-- an area with the value that this piece of a record has, if it is a field
abbrev pub with_piece : Piece → List ℕ → List ℕ → List ℕ
with_piece (Fixed bytes) text area = area
with_piece (Value place) text area = with_field place (field_value place.spelling text) area

-- an area with the values of the pieces that a text begins with
unfoldable pub with_fields : List Piece → List ℕ → List ℕ → List ℕ
with_fields [] text area = area
with_fields (piece ∷ pieces) text area =
    with_fields pieces (drop (piece_len piece) text)
    (with_piece piece (take (piece_len piece) text) area)

-- the area that fields stand for: their values at their places, and all else 0
abbrev pub area_of_fields : Pattern → List ℕ → List ℕ
area_of_fields pattern text = with_fields pattern.pieces text (replicate pattern.area_len 0)

-- An area of that length fits where its own fields stand for it, so where each byte outside every
-- variable is 0.
abbrev pub dtb_fits : Pattern → List ℕ → Bool
dtb_fits pattern area =
    is_pattern pattern
    && (length area == pattern.area_len
    && bytes_eq (area_of_fields pattern (pieces_text pattern.pieces area)) area)

-- the area that the fields of a record stand for
abbrev pub area_in : Pattern → List ℕ → List ℕ
area_in pattern bytes = area_of_fields pattern (drop head_len bytes)

-- Bytes pass as the fitting area whose record begins them, if there is one: it is the area that
-- their fields stand for.
abbrev pub dtb_passes : Pattern → List ℕ → Option (List ℕ)
dtb_passes pattern bytes =
    if dtb_fits pattern (area_in pattern bytes)
    && starts_with nat_eq bytes (dtb_text pattern (area_in pattern bytes))
    then Some (area_in pattern bytes) else None

-- this record as a format
abbrev pub dtb_form : Pattern → Form
dtb_form pattern = record {
  area_len = pattern.area_len;
  length_of = λ len. dtb_length pattern;
  reach = dtb_length pattern;
  fits = dtb_fits pattern;
  text = dtb_text pattern;
  passes = dtb_passes pattern;
  aged = λ bytes. false;
}
