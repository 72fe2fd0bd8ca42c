-- Areas that fit a pattern: exactly those in which each byte outside every variable is 0.
use Rattle.std.proofs.Common.{◌≡◌, ℕ, ◌+◌, ◌-◌, ◌<◌, ◌≤◌, ◌⊎◌, true, List, [], ◌∷◌, ◌++◌, length, take, drop, replicate, get_or, refl, sym, ap, ◌∙◌, arith, inl, inr}
use Rattle.std.specs.List.{AllByRecursion}
use Rattle.std.specs.Str.{bytes_eq}
use Rattle.std.proofs.lemmas.Bool.{and_from, cases_lt, eq-eqb}
use Rattle.std.proofs.lemmas.List.{drop_at, ext_get_or, get_or-append_right, get_or-drop, get_or-replicate, get_or-take, get_or_append_left, get_or_past, length-replicate, length-take-le, take_at}
use Rattle.bb_dtbrec.specs.declared.piece.Piece.{Piece}
use Rattle.bb_dtbrec.specs.declared.piece.Piece.TheVariants.{Fixed, Value}
use Rattle.bb_dtbrec.specs.declared.piece.Place.{Place}
use Rattle.bb_dtbrec.specs.Dtb.{Pattern, are_pieces, dtb_fits, field_len, field_of, is_pattern, pieces_len, pieces_text, value_at, field_value, with_fields, with_field}
use Rattle.bb_dtbrec.specs.Laws.{fit, pieces_fit, pieces_whole, same_bytes}
use Rattle.bb_dtbrec.specs.Pieces.{enough_behind, enough_first, length_piece_text, length_value_at, length_value_of, length_with_value, others_too, pieces_behind, placed, read_back}

-- a byte of the area is none of the variable at this place
abbrev pub IsBeside : ℕ → Place → Type 0
IsBeside k place = (k < place.at) ⊎ (place.at + place.size ≤ k)

abbrev pub IsOutsidePiece : ℕ → Piece → Type 0
IsOutsidePiece k (Fixed bytes) = Unit {0}
IsOutsidePiece k (Value place) = IsBeside k place

-- ---- one value

pub byte_beside : (place : Place) (value area : List ℕ) (k : ℕ) →
    place.at + place.size ≤ length area → length value ≡ place.size → IsBeside k place →
    get_or (with_field place value area) k 0 ≡ get_or area k 0
byte_beside place value area k inside e (inl before) =
    let rest : List ℕ = value ++ drop (place.at + place.size) area in
    let whole : length (take place.at area) ≡ place.at =
    length-take-le place.at area (omega arith) in
    get_or_append_left (take place.at area) rest 0 k (omega arith)
    ∙ get_or-take place.at area k 0 before
byte_beside place value area k inside e (inr behind) =
    let rest : List ℕ = drop (place.at + place.size) area in
    let whole : length (take place.at area) ≡ place.at =
    length-take-le place.at area (omega arith) in
    let again : (place.at + place.size) + ((k - place.at) - place.size) ≡ k = omega arith in
    get_or-append_right (take place.at area) (value ++ rest) place.at k 0 whole (omega arith)
    ∙ get_or-append_right value rest place.size (k - place.at) 0 e (omega arith)
    ∙ get_or-drop (place.at + place.size) area ((k - place.at) - place.size) 0
    ∙ ap (λ i. get_or area i 0) again

byte_of_value : (place : Place) (area start : List ℕ) (k : ℕ) →
    place.at + place.size ≤ length area → length start ≡ length area → place.at ≤ k →
    k < place.at + place.size →
    get_or (with_field place (value_at place area) start) k 0 ≡ get_or area k 0
byte_of_value place area start k inside e from to =
    let value : List ℕ = value_at place area in
    let rest : List ℕ = drop (place.at + place.size) start in
    let whole : length (take place.at start) ≡ place.at =
    length-take-le place.at start (omega arith) in
    let size : length value ≡ place.size = length_value_at place area inside in
    let again : place.at + (k - place.at) ≡ k = omega arith in
    get_or-append_right (take place.at start) (value ++ rest) place.at k 0 whole from
    ∙ get_or_append_left value rest 0 (k - place.at) (omega arith)
    ∙ get_or-take place.size (drop place.at area) (k - place.at) 0 (omega arith)
    ∙ get_or-drop place.at area (k - place.at) 0
    ∙ ap (λ i. get_or area i 0) again

-- where a value of an area was put, another is as that area where it was so beside the value
byte_put : (place : Place) (area start : List ℕ) (k : ℕ) →
    place.at + place.size ≤ length area → length start ≡ length area →
    (IsBeside k place → get_or start k 0 ≡ get_or area k 0) →
    get_or (with_field place (value_at place area) start) k 0 ≡ get_or area k 0
byte_put place area start k inside e same =
    let value : List ℕ = value_at place area in
    let size : length value ≡ place.size = length_value_at place area inside in
    let in_start : place.at + place.size ≤ length start = omega arith in
    elim (cases_lt k place.at) [
      | inl before ↦
          byte_beside place value start k in_start size (inl before) ∙ same (inl before)
      | inr from ↦ elim (cases_lt k (place.at + place.size)) [
        | inl to ↦ byte_of_value place area start k inside e from to
        | inr behind ↦
            byte_beside place value start k in_start size (inr behind) ∙ same (inr behind)
      ]
    ]

-- ---- all fields

-- fields leave each byte outside them
bytes_kept : (pieces : List Piece) (text area : List ℕ) (k : ℕ) →
    are_pieces pieces (length area) ≡ true → pieces_len pieces ≤ length text →
    AllByRecursion (IsOutsidePiece k) pieces →
    get_or (with_fields pieces text area) k 0 ≡ get_or area k 0
unfolding with_fields
bytes_kept [] text area k h enough outside = refl
bytes_kept (Fixed bytes ∷ pieces) text area k h enough outside =
    bytes_kept pieces (drop (length bytes) text) area k
    (others_too (Fixed bytes) pieces (length area) h)
    (enough_behind (Fixed bytes) pieces text enough) outside.1
bytes_kept (Value place ∷ pieces) text area k h enough outside =
    let len : ℕ = field_len place.spelling place.size in
    let value : List ℕ = field_value place.spelling (take len text) in
    let first : len ≤ length text = enough_first (Value place) pieces text enough in
    bytes_kept pieces (drop len text) (with_field place value area) k
    (pieces_behind (Value place) pieces text area h first)
    (enough_behind (Value place) pieces text enough) outside.1
    ∙ byte_beside place value area k (placed place pieces (length area) h).inside
    (length_value_of place.spelling place.size (take len text) (length-take-le len text first))
    outside.0

-- the fields of an area make it of any that is the same outside them
filled : (pieces : List Piece) (area start : List ℕ) → are_pieces pieces (length area) ≡ true →
    length start ≡ length area →
    ((k : ℕ) → k < length area → AllByRecursion (IsOutsidePiece k) pieces →
    get_or start k 0 ≡ get_or area k 0) →
    with_fields pieces (pieces_text pieces area) start ≡ area
unfolding with_fields pieces_text
filled [] area start h e same = ext_get_or 0 start area e (λ k l. same k (omega arith) tt)
filled (Fixed bytes ∷ pieces) area start h e same =
    let rest : List ℕ = pieces_text pieces area in
    ap (λ t. with_fields pieces t start) (drop_at bytes rest (length bytes) refl)
    ∙ filled pieces area start (others_too (Fixed bytes) pieces (length area) h) e
    (λ k l outside. same k l (tt, outside))
filled (Value place ∷ pieces) area start h e same =
    let value : List ℕ = value_at place area in
    let field : List ℕ = field_of place.spelling value in
    let rest : List ℕ = pieces_text pieces area in
    let len : ℕ = field_len place.spelling place.size in
    let known = placed place pieces (length area) h in
    let size : length value ≡ place.size = length_value_at place area known.inside in
    let whole : length field ≡ len = length_piece_text (Value place) pieces area h in
    let in_start : place.at + place.size ≤ length start = omega (arith, known.inside) in
    ap
    (λ t. with_fields pieces t
    (with_field place (field_value place.spelling (take len (field ++ rest))) start))
    (drop_at field rest len whole)
    ∙ ap (λ t. with_fields pieces rest (with_field place (field_value place.spelling t) start))
    (take_at field rest len whole)
    ∙ ap (λ v. with_fields pieces rest (with_field place v start))
    (read_back place.spelling value)
    ∙ filled pieces area (with_field place value start) known.others
    (length_with_value place value start in_start size ∙ e)
    (λ k l outside. byte_put place area start k known.inside e
    (λ beside. same k l (beside, outside)))

pub zero_at : (n k : ℕ) → let zeros : List ℕ = replicate n 0 in get_or zeros k 0 ≡ 0
zero_at n k =
    let zeros : List ℕ = replicate n 0 in
    let whole : length zeros ≡ n = length-replicate n 0 in
    elim (cases_lt k n) [
      | inl within ↦ get_or-replicate n k 0 0 within
      | inr past ↦ get_or_past zeros k 0 (omega arith)
    ]

-- ---- areas

-- an area fits where each byte outside every variable is 0
pub fits_where : (pattern : Pattern) (area : List ℕ) → is_pattern pattern ≡ true →
    length area ≡ pattern.area_len →
    ((k : ℕ) → k < length area → AllByRecursion (IsOutsidePiece k) pattern.pieces →
    get_or area k 0 ≡ 0) →
    dtb_fits pattern area ≡ true
fits_where pattern area h e none =
    let zeros : List ℕ = replicate pattern.area_len 0 in
    and_from _ _ h
    (and_from _ _ (eq-eqb _ _ e)
    (ap (λ l. bytes_eq l area)
    (filled pattern.pieces area zeros (pieces_fit pattern area h e)
    (length-replicate pattern.area_len 0 ∙ sym e)
    (λ k l outside. zero_at pattern.area_len k ∙ sym (none k l outside)))
    ∙ same_bytes area))

-- and only there
pub zero_outside : (pattern : Pattern) (area : List ℕ) (k : ℕ) → dtb_fits pattern area ≡ true →
    AllByRecursion (IsOutsidePiece k) pattern.pieces → get_or area k 0 ≡ 0
zero_outside pattern area k h outside =
    let known = fit pattern area h in
    let zeros : List ℕ = replicate pattern.area_len 0 in
    let text : List ℕ = pieces_text pattern.pieces area in
    let whole : length text ≡ pieces_len pattern.pieces =
    pieces_whole pattern area known.made known.whole in
    sym (ap (λ l. get_or l k 0) known.again)
    ∙ bytes_kept pattern.pieces text zeros k
    (pieces_fit pattern zeros known.made (length-replicate pattern.area_len 0)) (omega arith)
    outside
    ∙ zero_at pattern.area_len k
