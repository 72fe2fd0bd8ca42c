-- A record that comes in pieces. Each byte after the CRC has a slot, which says what it has to be
-- or where in the area it belongs.
use Rattle.std.specs.Prelude.{◌≡◌, ℕ, zero, suc, ◌+◌, ◌==◌, Bool, List, [], ◌∷◌, ◌++◌, length, take, drop, map, replicate, set, nat_eq, Option, Some, None, if◌then◌else◌}
use Rattle.bb_base.specs.Crc.{HasFed}
use Rattle.bb_dtbrec.specs.declared.feed.DtbFeed.{DtbFeed}
use Rattle.bb_dtbrec.specs.declared.piece.Piece.{Piece}
use Rattle.bb_dtbrec.specs.declared.piece.Piece.TheVariants.{Fixed, Value}
use Rattle.bb_dtbrec.specs.declared.piece.Spelling.{Spelling}
use Rattle.bb_dtbrec.specs.declared.piece.Spelling.TheVariants.{ByteAsCell, NumberAsCell, AsIs}
use Rattle.bb_dtbrec.specs.declared.walk.Cursor.{Cursor}
use Rattle.bb_dtbrec.specs.Dtb.{Pattern, crc_text, dtb_length, pieces_len}

-- ---- slots

pub data ByteSlot : Type 0 where
  -- this byte in every record
  Exactly : ℕ → ByteSlot
  -- the byte of the area at this place
  Area : ℕ → ByteSlot

-- those of so many bytes of the area from a place on, the first one first
unfoldable pub slots_up : ℕ → ℕ → List ByteSlot
slots_up at zero = []
slots_up at (suc n) = Area at ∷ slots_up (suc at) n

-- or the last one first
unfoldable pub slots_down : ℕ → ℕ → List ByteSlot
slots_down at zero = []
slots_down at (suc n) = Area (at + n) ∷ slots_down at n

-- those of the field of a value
abbrev pub field_slots : Spelling → ℕ → ℕ → List ByteSlot
field_slots ByteAsCell at size = Exactly 0 ∷ Exactly 0 ∷ Exactly 0 ∷ slots_up at size
field_slots NumberAsCell at size = slots_down at size
field_slots AsIs at size = slots_up at size

abbrev pub piece_slots : Piece → List ByteSlot
piece_slots (Fixed bytes) = map (λ byte. Exactly byte) bytes
piece_slots (Value place) = field_slots place.spelling place.at place.size

-- those of pieces, one after another
unfoldable pub slots_of : List Piece → List ByteSlot
slots_of [] = []
slots_of (piece ∷ pieces) = piece_slots piece ++ slots_of pieces

-- those from a byte of the first piece on
abbrev pub slots_within : List Piece → ℕ → List ByteSlot
slots_within [] offset = []
slots_within (piece ∷ pieces) offset = drop offset (piece_slots piece) ++ slots_of pieces

abbrev pub slots_from : List Piece → Cursor → List ByteSlot
slots_from pieces cursor = slots_within (drop cursor.piece pieces) cursor.offset

-- ---- bytes at slots

-- The area with these bytes at their places, if the others are what they have to be. As many slots
-- and bytes count as there are of both.
unfoldable pub read_slots : List ByteSlot → List ℕ → List ℕ → Option (List ℕ)
read_slots slots [] area = Some area
read_slots [] (byte ∷ text) area = Some area
read_slots (Exactly it ∷ slots) (byte ∷ text) area =
    if nat_eq it byte then read_slots slots text area else None
read_slots (Area at ∷ slots) (byte ∷ text) area = read_slots slots text (set area at byte)

abbrev pub area_where : Bool → List ℕ → Option (List ℕ)
area_where agrees area = if agrees then Some area else None

-- ---- what came

-- These first bytes of a record came, and left these values in an area of `size` bytes.
pub record HasCome (front : List ℕ) (pieces : List Piece) (size : ℕ) (feed : DtbFeed)
    (bytes area : List ℕ) : Type 0 where
  pub long : feed.len ≡ 80 + pieces_len pieces
  pub counted : feed.count ≡ length bytes
  pub head : take (length (take 80 bytes)) feed.head ≡ take 80 bytes
  pub crc : HasFed feed.crc (crc_text front (drop 80 bytes))
  pub next : slots_from pieces feed.cursor ≡ drop (length (drop 80 bytes)) (slots_of pieces)
  pub read :
      read_slots (slots_of pieces) (drop 80 bytes) (replicate size 0) ≡ area_where feed.sound area

-- an area that is cleared before the first byte comes
abbrev pub cleared : ℕ → List ℕ → List ℕ
cleared count area = if count == 0 then replicate (length area) 0 else area

-- Bytes after a record's own don't count.
abbrev pub dtb_holds : Pattern → DtbFeed → List ℕ → List ℕ → Type 0
dtb_holds pattern feed fed area =
    HasCome pattern.front pattern.pieces pattern.area_len feed (take (dtb_length pattern) fed)
    (cleared feed.count area)
