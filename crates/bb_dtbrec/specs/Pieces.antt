-- Of the pieces of a record: how many bytes they have, and that values are found again in the area.
use Rattle.std.proofs.Common.{◌≡◌, ℕ, ◌+◌, ◌-◌, ◌≤◌, ◌⊎◌, true, List, [], ◌∷◌, ◌++◌, length, take, drop, refl, sym, ap, ◌∙◌, append_assoc, arith, length-append, length-drop, inl, inr}
use Rattle.std.proofs.lemmas.Bool.{and_parts, leb-true, or_cases}
use Rattle.std.proofs.lemmas.List.{drop-append-le, drop-drop, drop-take, drop_at, length-reverse, length-take-le, reverse-reverse, take-append-le, take-take, take_at}
use Rattle.std.proofs.Math.Seq.{drop-append-add}
use Rattle.bb_dtbrec.specs.declared.piece.Piece.{Piece}
use Rattle.bb_dtbrec.specs.declared.piece.Piece.TheVariants.{Fixed, Value}
use Rattle.bb_dtbrec.specs.declared.piece.Place.{Place}
use Rattle.bb_dtbrec.specs.declared.piece.Spelling.{Spelling}
use Rattle.bb_dtbrec.specs.declared.piece.Spelling.TheVariants.{ByteAsCell, NumberAsCell, AsIs}
use Rattle.bb_dtbrec.specs.Dtb.{are_pieces, field_len, field_of, is_apart, piece_len, piece_text, pieces_len, pieces_text, value_at, field_value, with_fields, with_piece, with_field}

-- ---- what is known of pieces

-- a value among pieces
pub record StandsAmong (place : Place) (pieces : List Piece) (n : ℕ) : Type 0 where
  pub inside : place.at + place.size ≤ n
  pub apart : is_apart place pieces ≡ true
  pub others : are_pieces pieces n ≡ true

pub placed : (place : Place) (pieces : List Piece) (n : ℕ) →
    are_pieces (Value place ∷ pieces) n ≡ true → StandsAmong place pieces n
unfolding are_pieces
placed place pieces n h =
    let parts = and_parts _ _ h in
    record {
      inside = leb-true _ _ (and_parts _ _ parts.0).1;
      apart = (and_parts _ _ parts.1).0;
      others = (and_parts _ _ parts.1).1;
    }

pub others_too : (piece : Piece) (pieces : List Piece) (n : ℕ) →
    are_pieces (piece ∷ pieces) n ≡ true → are_pieces pieces n ≡ true
unfolding are_pieces
others_too (Fixed bytes) pieces n h = h
others_too (Value place) pieces n h = (and_parts _ _ (and_parts _ _ h).1).1

before_or_behind : (place other : Place) (pieces : List Piece) →
    is_apart place (Value other ∷ pieces) ≡ true →
    (place.at + place.size ≤ other.at) ⊎ (other.at + other.size ≤ place.at)
unfolding is_apart
before_or_behind place other pieces h = elim (or_cases _ _ (and_parts _ _ h).0)
    [ inl before ↦ inl (leb-true _ _ before) | inr behind ↦ inr (leb-true _ _ behind) ]

apart_too : (place : Place) (piece : Piece) (pieces : List Piece) →
    is_apart place (piece ∷ pieces) ≡ true → is_apart place pieces ≡ true
unfolding is_apart
apart_too place (Fixed bytes) pieces h = h
apart_too place (Value other) pieces h = (and_parts _ _ h).1

-- ---- lengths

pub length_value_at : (place : Place) (area : List ℕ) → place.at + place.size ≤ length area →
    length (value_at place area) ≡ place.size
length_value_at place area inside =
    length-take-le place.size (drop place.at area) (omega (arith, length-drop place.at area))

pub length_field_of : (spelling : Spelling) (value : List ℕ) →
    length (field_of spelling value) ≡ field_len spelling (length value)
length_field_of ByteAsCell value = omega arith
length_field_of NumberAsCell value = length-reverse value
length_field_of AsIs value = refl

pub length_value_of : (spelling : Spelling) (size : ℕ) (field : List ℕ) →
    length field ≡ field_len spelling size → length (field_value spelling field) ≡ size
length_value_of ByteAsCell size field e = omega (arith, length-drop 3 field)
length_value_of NumberAsCell size field e = length-reverse field ∙ e
length_value_of AsIs size field e = e

pub length_piece_text : (piece : Piece) (pieces : List Piece) (area : List ℕ) →
    are_pieces (piece ∷ pieces) (length area) ≡ true →
    length (piece_text piece area) ≡ piece_len piece
length_piece_text (Fixed bytes) pieces area h = refl
length_piece_text (Value place) pieces area h =
    length_field_of place.spelling (value_at place area)
    ∙ ap (field_len place.spelling)
    (length_value_at place area (placed place pieces (length area) h).inside)

pub length_pieces_text : (pieces : List Piece) (area : List ℕ) →
    are_pieces pieces (length area) ≡ true → length (pieces_text pieces area) ≡ pieces_len pieces
unfolding pieces_text pieces_len
length_pieces_text [] area h = refl
length_pieces_text (piece ∷ pieces) area h =
    length-append (piece_text piece area) (pieces_text pieces area)
    ∙ ap (λ n. n + length (pieces_text pieces area)) (length_piece_text piece pieces area h)
    ∙ ap (λ n. piece_len piece + n)
    (length_pieces_text pieces area (others_too piece pieces (length area) h))

pub length_with_value : (place : Place) (value area : List ℕ) → place.at + place.size ≤ length area →
    length value ≡ place.size → length (with_field place value area) ≡ length area
length_with_value place value area inside e =
    let behind : List ℕ = drop (place.at + place.size) area in
    let front : length (take place.at area) ≡ place.at =
    length-take-le place.at area (omega arith) in
    omega (
      arith,
      length-append (take place.at area) (value ++ behind),
      length-append value behind,
      length-drop (place.at + place.size) area,
    )

length_with_piece : (piece : Piece) (pieces : List Piece) (text area : List ℕ) →
    are_pieces (piece ∷ pieces) (length area) ≡ true → piece_len piece ≤ length text →
    length (with_piece piece (take (piece_len piece) text) area) ≡ length area
length_with_piece (Fixed bytes) pieces text area h enough = refl
length_with_piece (Value place) pieces text area h enough =
    let len : ℕ = field_len place.spelling place.size in
    length_with_value place (field_value place.spelling (take len text)) area
    (placed place pieces (length area) h).inside
    (length_value_of place.spelling place.size (take len text) (length-take-le len text enough))

-- the pieces after one, over the text after it, and the area with it
pub pieces_behind : (piece : Piece) (pieces : List Piece) (text area : List ℕ) →
    are_pieces (piece ∷ pieces) (length area) ≡ true → piece_len piece ≤ length text →
    are_pieces pieces (length (with_piece piece (take (piece_len piece) text) area)) ≡ true
pieces_behind piece pieces text area h enough =
    ap (are_pieces pieces) (length_with_piece piece pieces text area h enough)
    ∙ others_too piece pieces (length area) h

pub enough_first : (piece : Piece) (pieces : List Piece) (text : List ℕ) →
    pieces_len (piece ∷ pieces) ≤ length text → piece_len piece ≤ length text
unfolding pieces_len
enough_first piece pieces text enough = omega arith

pub enough_behind : (piece : Piece) (pieces : List Piece) (text : List ℕ) →
    pieces_len (piece ∷ pieces) ≤ length text →
    pieces_len pieces ≤ length (drop (piece_len piece) text)
unfolding pieces_len
enough_behind piece pieces text enough = omega (arith, length-drop (piece_len piece) text)

pub length_with_fields : (pieces : List Piece) (text area : List ℕ) →
    are_pieces pieces (length area) ≡ true → pieces_len pieces ≤ length text →
    length (with_fields pieces text area) ≡ length area
unfolding with_fields
length_with_fields [] text area h enough = refl
length_with_fields (piece ∷ pieces) text area h enough =
    let first : piece_len piece ≤ length text = enough_first piece pieces text enough in
    length_with_fields pieces (drop (piece_len piece) text)
    (with_piece piece (take (piece_len piece) text) area)
    (pieces_behind piece pieces text area h first) (enough_behind piece pieces text enough)
    ∙ length_with_piece piece pieces text area h first

-- ---- values in an area

-- a value is found again
value_put : (place : Place) (value area : List ℕ) → place.at + place.size ≤ length area →
    length value ≡ place.size → value_at place (with_field place value area) ≡ value
value_put place value area inside e =
    let behind : List ℕ = drop (place.at + place.size) area in
    ap (take place.size)
    (drop_at (take place.at area) (value ++ behind) place.at
    (length-take-le place.at area (omega arith)))
    ∙ take_at value behind place.size e

-- the same of a part that lies within
part_within : (at len m : ℕ) (bytes : List ℕ) → at + len ≤ m →
    take len (drop at (take m bytes)) ≡ take len (drop at bytes)
part_within at len m bytes inside =
    let split : m ≡ at + (m - at) = omega arith in
    ap (λ k. take len (drop at (take k bytes))) split
    ∙ ap (take len) (drop-take at (m - at) bytes)
    ∙ take-take len (m - at) (drop at bytes) (omega arith)

part_behind : (xs ys : List ℕ) (n m : ℕ) → length xs + n ≡ m → drop m (xs ++ ys) ≡ drop n ys
part_behind xs ys n m e = ap (λ k. drop k (xs ++ ys)) (sym e) ∙ drop-append-add xs ys n

-- and leaves those that share no byte with it
value_kept : (place other : Place) (value area : List ℕ) →
    (place.at + place.size ≤ other.at) ⊎ (other.at + other.size ≤ place.at) →
    other.at + other.size ≤ length area → length value ≡ other.size →
    value_at place (with_field other value area) ≡ value_at place area
value_kept place other value area (inl before) inside e =
    let front : List ℕ = take other.at area in
    let rest : List ℕ = value ++ drop (other.at + other.size) area in
    let whole : length front ≡ other.at = length-take-le other.at area (omega arith) in
    ap (take place.size) (drop-append-le place.at front rest (omega arith))
    ∙ take-append-le place.size (drop place.at front) rest
    (omega (arith, length-drop place.at front))
    ∙ part_within place.at place.size other.at area before
value_kept place other value area (inr behind) inside e =
    let front : List ℕ = take other.at area in
    let end : ℕ = other.at + other.size in
    let rest : List ℕ = drop end area in
    let whole : length front ≡ other.at = length-take-le other.at area (omega arith) in
    let skipped : ℕ = place.at - end in
    let again : end + skipped ≡ place.at = omega arith in
    ap (λ l. take place.size (drop place.at l)) (sym (append_assoc front value rest))
    ∙ ap (take place.size)
    (part_behind (front ++ value) rest skipped place.at (omega (arith, length-append front value))
    ∙ drop-drop skipped end area ∙ ap (λ n. drop n area) again)

value_stays : (place : Place) (pieces : List Piece) (text area : List ℕ) →
    is_apart place pieces ≡ true → are_pieces pieces (length area) ≡ true →
    pieces_len pieces ≤ length text →
    value_at place (with_fields pieces text area) ≡ value_at place area
unfolding with_fields
value_stays place [] text area apart h enough = refl
value_stays place (Fixed bytes ∷ pieces) text area apart h enough =
    value_stays place pieces (drop (length bytes) text) area
    (apart_too place (Fixed bytes) pieces apart) (others_too (Fixed bytes) pieces (length area) h)
    (enough_behind (Fixed bytes) pieces text enough)
value_stays place (Value other ∷ pieces) text area apart h enough =
    let len : ℕ = field_len other.spelling other.size in
    let value : List ℕ = field_value other.spelling (take len text) in
    let first : len ≤ length text = enough_first (Value other) pieces text enough in
    value_stays place pieces (drop len text) (with_field other value area)
    (apart_too place (Value other) pieces apart)
    (pieces_behind (Value other) pieces text area h first)
    (enough_behind (Value other) pieces text enough)
    ∙ value_kept place other value area (before_or_behind place other pieces apart)
    (placed other pieces (length area) h).inside
    (length_value_of other.spelling other.size (take len text) (length-take-le len text first))

-- the value of a first field is that of the area in the end
pub value_read : (place : Place) (pieces : List Piece) (text area : List ℕ) →
    are_pieces (Value place ∷ pieces) (length area) ≡ true →
    pieces_len (Value place ∷ pieces) ≤ length text →
    value_at place (with_fields (Value place ∷ pieces) text area)
    ≡ field_value place.spelling (take (field_len place.spelling place.size) text)
unfolding with_fields
value_read place pieces text area h enough =
    let len : ℕ = field_len place.spelling place.size in
    let value : List ℕ = field_value place.spelling (take len text) in
    let first : len ≤ length text = enough_first (Value place) pieces text enough in
    let known = placed place pieces (length area) h in
    value_stays place pieces (drop len text) (with_field place value area) known.apart
    (pieces_behind (Value place) pieces text area h first)
    (enough_behind (Value place) pieces text enough)
    ∙ value_put place value area known.inside
    (length_value_of place.spelling place.size (take len text) (length-take-le len text first))

-- ---- fields are read back

pub read_back : (spelling : Spelling) (value : List ℕ) →
    field_value spelling (field_of spelling value) ≡ value
read_back ByteAsCell value = refl
read_back NumberAsCell value = reverse-reverse value
read_back AsIs value = refl

piece_again : (piece : Piece) (pieces : List Piece) (text area : List ℕ) →
    are_pieces (piece ∷ pieces) (length area) ≡ true →
    pieces_len (piece ∷ pieces) ≤ length text →
    with_piece piece (piece_text piece (with_fields (piece ∷ pieces) text area)) area
    ≡ with_piece piece (take (piece_len piece) text) area
piece_again (Fixed bytes) pieces text area h enough = refl
piece_again (Value place) pieces text area h enough =
    ap (λ value. with_field place value area)
    (read_back place.spelling (value_at place (with_fields (Value place ∷ pieces) text area))
    ∙ value_read place pieces text area h enough)

-- what fields stand for, stands for itself
pub fields_again : (pieces : List Piece) (text area : List ℕ) →
    are_pieces pieces (length area) ≡ true → pieces_len pieces ≤ length text →
    with_fields pieces (pieces_text pieces (with_fields pieces text area)) area
    ≡ with_fields pieces text area
unfolding with_fields pieces_text
fields_again [] text area h enough = refl
fields_again (piece ∷ pieces) text area h enough =
    let len : ℕ = piece_len piece in
    let first : len ≤ length text = enough_first piece pieces text enough in
    let next : List ℕ = with_piece piece (take len text) area in
    let read : List ℕ = with_fields pieces (drop len text) next in
    let field : List ℕ = piece_text piece read in
    let fields : List ℕ = pieces_text pieces read in
    let same : length read ≡ length area = length_with_fields (piece ∷ pieces) text area h enough in
    let whole : length field ≡ len =
    length_piece_text piece pieces read (ap (are_pieces (piece ∷ pieces)) same ∙ h) in
    ap (λ t. with_fields pieces t (with_piece piece (take len (field ++ fields)) area))
    (drop_at field fields len whole)
    ∙ ap (λ t. with_fields pieces fields (with_piece piece t area)) (take_at field fields len whole)
    ∙ ap (with_fields pieces fields) (piece_again piece pieces text area h enough)
    ∙ fields_again pieces (drop len text) next (pieces_behind piece pieces text area h first)
    (enough_behind piece pieces text enough)

-- what follows the fields doesn't count
pub fields_first : (pieces : List Piece) (text rest area : List ℕ) →
    pieces_len pieces ≤ length text →
    with_fields pieces (text ++ rest) area ≡ with_fields pieces text area
unfolding with_fields
fields_first [] text rest area enough = refl
fields_first (piece ∷ pieces) text rest area enough =
    let len : ℕ = piece_len piece in
    let first : len ≤ length text = enough_first piece pieces text enough in
    ap (λ t. with_fields pieces t (with_piece piece (take len (text ++ rest)) area))
    (drop-append-le len text rest first)
    ∙ ap (λ t. with_fields pieces (drop len text ++ rest) (with_piece piece t area))
    (take-append-le len text rest first)
    ∙ fields_first pieces (drop len text) rest (with_piece piece (take len text) area)
    (enough_behind piece pieces text enough)
