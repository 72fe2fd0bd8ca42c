-- What a check looks at, field by field, and that it is what passes.
use Rattle.std.proofs.Common.{◌≡◌, ℕ, ◌≤◌, Bool, true, false, ◌&&◌, List, [], ◌∷◌, ◌++◌, length, take, take_all, drop, replicate, Some, None, refl, sym, ap, ◌∙◌, arith, cond}
use Rattle.std.specs.Prelude.{nat_eq}
use Rattle.std.specs.Int.{w32, to_be_bytes}
use Rattle.std.specs.List.{starts_with}
use Rattle.std.specs.Str.{bytes_eq}
use Rattle.std.proofs.lemmas.List.{drop-drop, drop-take, length-drop, length-replicate, reverse-reverse, take-take}
use Rattle.std.proofs.lemmas.Slice.Eq.{bytes_eq-Decides}
use Rattle.bb_dtbrec.specs.declared.piece.Piece.{Piece}
use Rattle.bb_dtbrec.specs.declared.piece.Piece.TheVariants.{Fixed, Value}
use Rattle.bb_dtbrec.specs.declared.piece.Spelling.{Spelling}
use Rattle.bb_dtbrec.specs.declared.piece.Spelling.TheVariants.{ByteAsCell, NumberAsCell, AsIs}
use Rattle.bb_dtbrec.specs.Dtb.{Pattern, are_pieces, area_in, dtb_length, dtb_passes, dtb_text, field_len, field_of, is_pattern, piece_len, piece_text, pieces_len, pieces_text, record_crc, field_value, with_fields, with_piece}
use Rattle.bb_dtbrec.specs.Pieces.{enough_behind, enough_first, length_piece_text, length_with_fields, pieces_behind, value_read}
use Rattle.bb_dtbrec.specs.Laws.{enough_fields, pieces_fit, pieces_whole, read_fits, read_whole, same_bytes, sound}

-- ---- what a check looks at

-- the bytes before the pieces are this front, and the CRC of a record with these pieces
abbrev pub head_agrees : List ℕ → List ℕ → List ℕ → Bool
head_agrees front pieces head =
    bytes_eq front (take 76 head)
    && bytes_eq (to_be_bytes w32 (record_crc front pieces)) (drop 76 head)

-- the high bytes of a cell that holds one byte are 0
abbrev pub field_agrees : Spelling → List ℕ → Bool
field_agrees ByteAsCell field = bytes_eq (0 ∷ 0 ∷ 0 ∷ []) (take 3 field)
field_agrees NumberAsCell field = true
field_agrees AsIs field = true

abbrev pub piece_agrees : Piece → List ℕ → Bool
piece_agrees (Fixed bytes) text = bytes_eq bytes text
piece_agrees (Value place) text = field_agrees place.spelling text

-- what isn't a value is as in every record
unfoldable pub fields_agree : List Piece → List ℕ → Bool
fields_agree [] text = true
fields_agree (piece ∷ pieces) text =
    piece_agrees piece (take (piece_len piece) text)
    && fields_agree pieces (drop (piece_len piece) text)

and_assoc : (p q r : Bool) → ((p && q) && r) ≡ (p && (q && r))
and_assoc true q r = refl
and_assoc false q r = refl

begins_both : (a b text : List ℕ) →
    starts_with nat_eq text (a ++ b)
    ≡ (starts_with nat_eq text a && starts_with nat_eq (drop (length a) text) b)
begins_both [] b text = refl
begins_both (x ∷ a) b [] = refl
begins_both (x ∷ a) b (y ∷ text) =
    ap (λ s. nat_eq x y && s) (begins_both a b text)
    ∙ sym
    (and_assoc (nat_eq x y) (starts_with nat_eq text a)
    (starts_with nat_eq (drop (length a) text) b))

spelt_again : (spelling : Spelling) (field : List ℕ) →
    bytes_eq (field_of spelling (field_value spelling field)) field ≡ field_agrees spelling field
spelt_again ByteAsCell [] = refl
spelt_again ByteAsCell (a ∷ []) = refl
spelt_again ByteAsCell (a ∷ b ∷ []) = refl
spelt_again ByteAsCell (a ∷ b ∷ c ∷ field) =
    ap (λ s. nat_eq 0 a && (nat_eq 0 b && (nat_eq 0 c && s))) (same_bytes field)
spelt_again NumberAsCell field =
    ap (λ l. bytes_eq l field) (reverse-reverse field) ∙ same_bytes field
spelt_again AsIs field = same_bytes field

piece_begins : (piece : Piece) (pieces : List Piece) (text area : List ℕ) →
    are_pieces (piece ∷ pieces) (length area) ≡ true →
    pieces_len (piece ∷ pieces) ≤ length text →
    bytes_eq (piece_text piece (with_fields (piece ∷ pieces) text area))
    (take (piece_len piece) text)
    ≡ piece_agrees piece (take (piece_len piece) text)
piece_begins (Fixed bytes) pieces text area h enough = refl
piece_begins (Value place) pieces text area h enough =
    let field : List ℕ = take (field_len place.spelling place.size) text in
    ap (λ value. bytes_eq (field_of place.spelling value) field)
    (value_read place pieces text area h enough)
    ∙ spelt_again place.spelling field

fields_begin : (pieces : List Piece) (text area : List ℕ) →
    are_pieces pieces (length area) ≡ true → pieces_len pieces ≤ length text →
    starts_with nat_eq text (pieces_text pieces (with_fields pieces text area))
    ≡ fields_agree pieces text
unfolding with_fields pieces_text fields_agree
fields_begin [] text area h enough = refl
fields_begin (piece ∷ pieces) text area h enough =
    let len : ℕ = piece_len piece in
    let first : len ≤ length text = enough_first piece pieces text enough in
    let next : List ℕ = with_piece piece (take len text) area in
    let read : List ℕ = with_fields pieces (drop len text) next in
    let field : List ℕ = piece_text piece read in
    let fields : List ℕ = pieces_text pieces read in
    let same : length read ≡ length area = length_with_fields (piece ∷ pieces) text area h enough in
    let whole : length field ≡ len =
    length_piece_text piece pieces read (ap (are_pieces (piece ∷ pieces)) same ∙ h) in
    begins_both field fields text
    ∙ ap (λ n. bytes_eq field (take n text) && starts_with nat_eq (drop n text) fields) whole
    ∙ ap (λ s. s && starts_with nat_eq (drop len text) fields)
    (piece_begins piece pieces text area h enough)
    ∙ ap (λ s. piece_agrees piece (take len text) && s)
    (fields_begin pieces (drop len text) next (pieces_behind piece pieces text area h first)
    (enough_behind piece pieces text enough))

-- a test before another may take what that shows
middle : (a b c d : Bool) → (b ≡ true → c ≡ d) → (a && (c && b)) ≡ ((a && d) && b)
middle true true c d h = ap (λ s. s && true) (h refl)
middle true false true true h = refl
middle true false true false h = refl
middle true false false true h = refl
middle true false false false h = refl
middle false b c d h = refl

-- the record of this area is the bytes where their front, CRC and pieces agree
record_begins : (front pieces bytes : List ℕ) → length front ≡ 76 →
    length (drop 80 bytes) ≡ length pieces →
    starts_with nat_eq bytes (front ++ (to_be_bytes w32 (record_crc front pieces) ++ pieces))
    ≡ (head_agrees front (drop 80 bytes) (take 80 bytes)
    && starts_with nat_eq (drop 80 bytes) pieces)
record_begins front pieces bytes e whole =
    let crc : List ℕ = to_be_bytes w32 (record_crc front pieces) in
    let rest : List ℕ = drop 80 bytes in
    let found : List ℕ = to_be_bytes w32 (record_crc front rest) in
    let start : List ℕ = take 76 bytes in
    let field : List ℕ = take 4 (drop 76 bytes) in
    let begins : Bool = starts_with nat_eq rest pieces in
    begins_both front (crc ++ pieces) bytes
    ∙ ap (λ n. bytes_eq front (take n bytes) && starts_with nat_eq (drop n bytes) (crc ++ pieces)) e
    ∙ ap (λ s. bytes_eq front start && s)
    (begins_both crc pieces (drop 76 bytes)
    ∙ ap (λ l. bytes_eq crc field && starts_with nat_eq l pieces) (drop-drop 4 76 bytes))
    ∙ middle (bytes_eq front start) begins (bytes_eq crc field) (bytes_eq found field)
    (λ p. ap (λ l. bytes_eq (to_be_bytes w32 (record_crc front l)) field)
    ((bytes_eq-Decides pieces (take (length pieces) rest)).0 p
    ∙ take_all (length pieces) rest (omega arith)))
    ∙ ap (λ l. (bytes_eq front l && bytes_eq found field) && begins)
    (sym (take-take 76 80 bytes (omega arith)))
    ∙ ap (λ l. (bytes_eq front (take 76 (take 80 bytes)) && bytes_eq found l) && begins)
    (sym (drop-take 76 4 bytes))

-- bytes of a record's length pass where their front, CRC and pieces agree
pub passes_by_fields : (pattern : Pattern) (bytes : List ℕ) → is_pattern pattern ≡ true →
    length bytes ≡ dtb_length pattern →
    dtb_passes pattern bytes
    ≡ cond
    (head_agrees pattern.front (drop 80 bytes) (take 80 bytes)
    && fields_agree pattern.pieces (drop 80 bytes))
    (Some (area_in pattern bytes)) None
passes_by_fields pattern bytes h all =
    let area : List ℕ = area_in pattern bytes in
    let text : List ℕ = drop 80 bytes in
    let head : Bool = head_agrees pattern.front text (take 80 bytes) in
    let fields : List ℕ = pieces_text pattern.pieces area in
    let more : pieces_len pattern.pieces ≤ length text =
    enough_fields pattern bytes (omega arith) in
    let whole : length fields ≡ pieces_len pattern.pieces =
    pieces_whole pattern area h (read_whole pattern text h more) in
    ap (λ s. cond (s && starts_with nat_eq bytes (dtb_text pattern area)) (Some area) None)
    (read_fits pattern text h more)
    ∙ ap (λ s. cond s (Some area) None)
    (record_begins pattern.front fields bytes (sound pattern h).front
    (omega (arith, whole, length-drop 80 bytes))
    ∙ ap (λ s. head && s)
    (fields_begin pattern.pieces text (replicate pattern.area_len 0)
    (pieces_fit pattern (replicate pattern.area_len 0) h (length-replicate pattern.area_len 0))
    more))
