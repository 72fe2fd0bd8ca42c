-- Bytes at slots, part by part, and as the pieces have them.
use Rattle.std.proofs.Common.{◌≡◌, ℕ, zero, suc, ◌+◌, ◌-◌, ◌≤◌, Bool, true, false, ◌&&◌, List, [], ◌∷◌, ◌++◌, length, take, take_all, drop, reverse, set, map, min, nat_eq, Option, Some, None, option_and_then, refl, sym, ap, ◌∙◌, append_assoc, arith, cond, subst}
use Rattle.std.specs.Str.{bytes_eq}
use Rattle.std.proofs.lemmas.List.{drop-map, drop-set, drop_min, length-drop, length-map, length-set, length-take, length-take-le, reverse-append, take-append-drop, take-set-le}
use Rattle.std.proofs.lemmas.List.Edits.{sets, sets-eq}
use Rattle.std.proofs.Math.Seq.{drop-nil}
use Rattle.bb_dtbrec.specs.declared.piece.Piece.{Piece}
use Rattle.bb_dtbrec.specs.declared.piece.Piece.TheVariants.{Fixed, Value}
use Rattle.bb_dtbrec.specs.declared.piece.Spelling.{Spelling}
use Rattle.bb_dtbrec.specs.declared.piece.Spelling.TheVariants.{ByteAsCell, NumberAsCell, AsIs}
use Rattle.bb_dtbrec.specs.Checking.{field_agrees, fields_agree, piece_agrees}
use Rattle.bb_dtbrec.specs.Dtb.{IsInside, are_pieces, field_len, field_value, piece_len, pieces_len, with_fields, with_piece}
use Rattle.bb_dtbrec.specs.Feeding.{ByteSlot, Exactly, Area, area_where, field_slots, piece_slots, read_slots, slots_down, slots_of, slots_up}
use Rattle.bb_dtbrec.specs.Pieces.{enough_behind, enough_first, length_value_of, pieces_behind}
use Rattle.bb_dtbrec.proofs.Steps.{inside}

-- ---- some bytes and then others

pub both_if : (a b : Bool) (area : List ℕ) → cond a (area_where b area) None ≡ area_where (a && b) area
both_if true b area = refl
both_if false b area = refl

pub then_if : (b : Bool) (area : List ℕ) (next : List ℕ → Option (List ℕ)) →
    option_and_then next (area_where b area) ≡ cond b (next area) None
then_if true area next = refl
then_if false area next = refl

then_cond : (b : Bool) (o p : Option (List ℕ)) (next : List ℕ → Option (List ℕ)) →
    o ≡ option_and_then next p → cond b o None ≡ option_and_then next (cond b p None)
then_cond true o p next h = h
then_cond false o p next h = refl

-- bytes after the last slot don't count
pub past_read : (text area : List ℕ) → read_slots [] text area ≡ Some area
unfolding read_slots
past_read [] area = refl
past_read (byte ∷ text) area = refl

-- some slots, and then others
pub both_read : (one other : List ByteSlot) (text area : List ℕ) →
    read_slots (one ++ other) text area
    ≡ option_and_then (read_slots other (drop (length one) text))
    (read_slots one (take (length one) text) area)
unfolding read_slots
both_read [] other text area = refl
both_read (slot ∷ one) other [] area = refl
both_read (Exactly it ∷ one) other (byte ∷ text) area =
    then_cond (nat_eq it byte) _ _ _ (both_read one other text area)
both_read (Area at ∷ one) other (byte ∷ text) area = both_read one other text (set area at byte)

-- some bytes, and then more
pub more_read : (slots : List ByteSlot) (text more area : List ℕ) →
    read_slots slots (text ++ more) area
    ≡ option_and_then (read_slots (drop (length text) slots) more) (read_slots slots text area)
unfolding read_slots
more_read slots [] more area = refl
more_read [] (byte ∷ text) more area = sym (past_read more area)
more_read (Exactly it ∷ slots) (byte ∷ text) more area =
    then_cond (nat_eq it byte) _ _ _ (more_read slots text more area)
more_read (Area at ∷ slots) (byte ∷ text) more area = more_read slots text more (set area at byte)

-- ---- the slots of a piece

up_len : (at n : ℕ) → length (slots_up at n) ≡ n
unfolding slots_up
up_len at zero = refl
up_len at (suc n) = ap suc (up_len (suc at) n)

down_len : (at n : ℕ) → length (slots_down at n) ≡ n
unfolding slots_down
down_len at zero = refl
down_len at (suc n) = ap suc (down_len at n)

field_slots_len : (spelling : Spelling) (at size : ℕ) →
    length (field_slots spelling at size) ≡ field_len spelling size
field_slots_len ByteAsCell at size = omega (arith, up_len at size)
field_slots_len NumberAsCell at size = down_len at size
field_slots_len AsIs at size = up_len at size

pub slots_len : (piece : Piece) → length (piece_slots piece) ≡ piece_len piece
slots_len (Fixed bytes) = length-map bytes (λ byte. Exactly byte)
slots_len (Value place) = field_slots_len place.spelling place.at place.size

up_drop : (offset at n next left : ℕ) → next ≡ at + offset → n ≡ offset + left →
    drop offset (slots_up at n) ≡ slots_up next left
unfolding slots_up
up_drop zero at n next left e f =
    let same : at ≡ next = omega arith in
    let all : n ≡ left = omega arith in
    ap (λ k. slots_up k n) same ∙ ap (slots_up next) all
up_drop (suc offset) at zero next left e f = absurd (omega arith)
up_drop (suc offset) at (suc n) next left e f =
    up_drop offset (suc at) n next left (omega arith) (omega arith)

down_drop : (offset at n left : ℕ) → n ≡ offset + left →
    drop offset (slots_down at n) ≡ slots_down at left
unfolding slots_down
down_drop zero at n left f = let all : n ≡ left = omega arith in ap (slots_down at) all
down_drop (suc offset) at zero left f = absurd (omega arith)
down_drop (suc offset) at (suc n) left f = down_drop offset at n left (omega arith)

-- ---- bytes of a piece

pub fixed_read : (bytes text area : List ℕ) → length text ≤ length bytes →
    read_slots (map (λ byte. Exactly byte) bytes) text area
    ≡ area_where (bytes_eq (take (length text) bytes) text) area
unfolding read_slots
fixed_read bytes [] area h = refl
fixed_read [] (x ∷ text) area h = absurd (omega arith)
fixed_read (b ∷ bytes) (x ∷ text) area h =
    ap (λ o. cond (nat_eq b x) o None) (fixed_read bytes text area (omega arith))
    ∙ both_if (nat_eq b x) (bytes_eq (take (length text) bytes) text) area

up_sets : (at n : ℕ) (text area : List ℕ) → length text ≤ n →
    read_slots (slots_up at n) text area ≡ Some (sets area at text)
unfolding read_slots slots_up
up_sets at n [] area h = refl
up_sets at zero (x ∷ text) area h = absurd (omega arith)
up_sets at (suc n) (x ∷ text) area h = up_sets (suc at) n text (set area at x) (omega arith)

up_read : (at n end : ℕ) (text area : List ℕ) → length text ≤ n → end ≡ at + length text →
    end ≤ length area →
    read_slots (slots_up at n) text area ≡ Some (take at area ++ (text ++ drop end area))
up_read at n end text area few e inside =
    up_sets at n text area few
    ∙ ap (λ l. Some l)
    (sets-eq text area at (omega arith)
    ∙ append_assoc (take at area) text (drop (at + length text) area)
    ∙ ap (λ k. take at area ++ (text ++ drop k area)) (sym e))

down_read : (at n from end : ℕ) (text area : List ℕ) → at ≤ from → end ≡ from + length text →
    end ≡ at + n → end ≤ length area →
    read_slots (slots_down at n) text area
    ≡ Some (take from area ++ (reverse text ++ drop end area))
unfolding read_slots slots_down
down_read at n from end [] area low e f inside =
    let same : end ≡ from = omega arith in
    sym
    (ap (λ k. Some (take from area ++ drop k area)) same
    ∙ ap (λ l. Some l) (take-append-drop from area))
down_read at zero from end (x ∷ text) area low e f inside = absurd (omega arith)
down_read at (suc n) from end (x ∷ text) area low e f inside =
    let place : ℕ = at + n in
    let next : List ℕ = set area place x in
    let one : place + 1 ≡ end = omega arith in
    let same : length next ≡ length area = length-set area place x in
    down_read at n from place text next low (omega arith) refl (omega arith)
    ∙ ap (λ l. Some (l ++ (reverse text ++ drop place next)))
    (take-set-le from area place x (omega arith))
    ∙ ap (λ l. Some (take from area ++ (reverse text ++ l)))
    (drop-set area place x (omega arith) ∙ ap (λ k. x ∷ drop k area) one)
    ∙ ap (λ l. Some (take from area ++ l))
    (sym (append_assoc (reverse text) (x ∷ []) (drop end area))
    ∙ ap (λ l. l ++ drop end area) (sym (reverse-append (x ∷ []) text)))

-- bytes that are always the same, and then those of a value
led_read : (lead : List ℕ) (at n end : ℕ) (text area : List ℕ) →
    length (drop (length lead) text) ≤ n → end ≡ at + length (drop (length lead) text) →
    end ≤ length area →
    read_slots (map (λ byte. Exactly byte) lead ++ slots_up at n) text area
    ≡ area_where
    (bytes_eq (take (length (take (length lead) text)) lead) (take (length lead) text))
    (take at area ++ (drop (length lead) text ++ drop end area))
led_read lead at n end text area few e inside =
    let slots : List ByteSlot = map (λ byte. Exactly byte) lead in
    let high : List ℕ = take (length lead) text in
    let low : List ℕ = drop (length lead) text in
    let agrees : Bool = bytes_eq (take (length high) lead) high in
    both_read slots (slots_up at n) text area
    ∙ ap
    (λ k. option_and_then (read_slots (slots_up at n) (drop k text))
    (read_slots slots (take k text) area))
    (length-map lead (λ byte. Exactly byte))
    ∙ ap (option_and_then (read_slots (slots_up at n) low))
    (fixed_read lead high area (omega (arith, length-take (length lead) text)))
    ∙ then_if agrees area (read_slots (slots_up at n) low)
    ∙ ap (λ o. cond agrees o None) (up_read at n end low area few e inside)

pub drop_both : {A : Type 0} (n k : ℕ) (one other : List A) → k ≡ n - length one →
    drop n (one ++ other) ≡ drop n one ++ drop k other
drop_both {A = A} n k [] other e =
    let same : k ≡ n = omega arith in
    sym (ap (λ l. l ++ drop k other) (drop-nil {A = A} n) ∙ ap (λ i. drop i other) same)
drop_both {A = A} zero k (x ∷ one) other e =
    let none : k ≡ 0 = omega arith in sym (ap (λ i. (x ∷ one) ++ drop i other) none)
drop_both {A = A} (suc n) k (x ∷ one) other e = drop_both {A = A} n k one other (omega arith)

-- ---- bytes of a piece from a place in it on, as the code takes them

pub fixed_taken : (bytes part area : List ℕ) (offset : ℕ) →
    offset + length part ≤ length bytes →
    read_slots (drop offset (map (λ byte. Exactly byte) bytes)) part area
    ≡ area_where (bytes_eq (take (length part) (drop offset bytes)) part) area
fixed_taken bytes part area offset h =
    ap (λ slots. read_slots slots part area) (drop-map (λ byte. Exactly byte) offset bytes)
    ∙ fixed_read (drop offset bytes) part area (omega (arith, length-drop offset bytes))

pub up_taken : (at size offset : ℕ) (part area : List ℕ) → offset + length part ≤ size →
    at + size ≤ length area →
    read_slots (drop offset (slots_up at size)) part area
    ≡ Some (take (at + offset) area ++ (part ++ drop ((at + offset) + length part) area))
up_taken at size offset part area h inside =
    ap (λ slots. read_slots slots part area)
    (up_drop offset at size (at + offset) (size - offset) refl (omega arith))
    ∙ up_read (at + offset) (size - offset) ((at + offset) + length part) part area (omega arith) refl
    (omega arith)

pub down_taken : (at size offset end : ℕ) (part area : List ℕ) → offset + length part ≤ size →
    at + size ≤ length area → end ≡ at + (size - offset) →
    read_slots (drop offset (slots_down at size)) part area
    ≡ Some (take (end - length part) area ++ (reverse part ++ drop end area))
down_taken at size offset end part area h inside e =
    ap (λ slots. read_slots slots part area)
    (down_drop offset at size (size - offset) (omega arith))
    ∙ down_read at (size - offset) (end - length part) end part area (omega arith) (omega arith) e
    (omega arith)

pub cell_taken : (at size offset ahead skipped start : ℕ) (part high low area : List ℕ) →
    offset + length part ≤ 3 + size → at + size ≤ length area → ahead ≡ 3 - offset →
    skipped ≡ offset - 3 → start ≡ min offset 3 → high ≡ take ahead part → low ≡ drop ahead part →
    read_slots (drop offset (field_slots ByteAsCell at size)) part area
    ≡ area_where (bytes_eq (take (length high) (drop start (0 ∷ 0 ∷ 0 ∷ []))) high)
    (take (at + skipped) area ++ (low ++ drop ((at + skipped) + length low) area))
cell_taken at size offset ahead skipped start part high low area h inside left skip begun is_high
    is_low =
    let zeros : List ℕ = 0 ∷ 0 ∷ 0 ∷ [] in
    let lead : List ℕ = drop offset zeros in
    let from : ℕ = at + skipped in
    let end : ℕ = from + length low in
    let whole : length lead ≡ ahead = length-drop offset zeros ∙ sym left in
    let high_is : take (length lead) part ≡ high = ap (λ k. take k part) whole ∙ sym is_high in
    let low_is : drop (length lead) part ≡ low = ap (λ k. drop k part) whole ∙ sym is_low in
    let low_len : length low ≡ length part - ahead = ap length is_low ∙ length-drop ahead part in
    let same_len : length (drop (length lead) part) ≡ length low = ap length low_is in
    ap (λ slots. read_slots slots part area)
    (drop_both {A = ByteSlot} offset skipped (map (λ byte. Exactly byte) zeros) (slots_up at size) skip
    ∙ ap (λ slots. slots ++ drop skipped (slots_up at size))
    (drop-map (λ byte. Exactly byte) offset zeros)
    ∙ ap (λ slots. map (λ byte. Exactly byte) lead ++ slots)
    (up_drop skipped at size from (size - skipped) refl (omega arith)))
    ∙ led_read lead from (size - skipped) end part area (omega arith) (omega arith) (omega arith)
    ∙ ap
    (λ l. area_where (bytes_eq (take (length l) lead) l)
    (take from area ++ (drop (length lead) part ++ drop end area)))
    high_is
    ∙ ap
    (λ l. area_where (bytes_eq (take (length high) lead) high) (take from area ++ (l ++ drop end area)))
    low_is
    ∙ ap
    (λ l. area_where (bytes_eq (take (length high) l) high)
    (take from area ++ (low ++ drop end area)))
    (sym (ap (λ k. drop k zeros) begun ∙ drop_min offset zeros))

-- the same, by how the value is spelt
pub number_taken : (spelling : Spelling) (at size offset end : ℕ) (part area new : List ℕ) →
    spelling ≡ NumberAsCell → offset + length part ≤ field_len spelling size →
    at + size ≤ length area → end ≡ at + (size - offset) →
    new ≡ take (end - length part) area ++ (reverse part ++ drop end area) →
    read_slots (drop offset (field_slots spelling at size)) part area ≡ Some new
number_taken ByteAsCell at size offset end part area new is h inside e f = absurd cc
number_taken NumberAsCell at size offset end part area new is h inside e f =
    down_taken at size offset end part area h inside e ∙ ap (λ l. Some l) (sym f)
number_taken AsIs at size offset end part area new is h inside e f = absurd cc

pub straight_taken : (spelling : Spelling) (at size offset : ℕ) (part area new : List ℕ) →
    spelling ≡ AsIs → offset + length part ≤ field_len spelling size → at + size ≤ length area →
    new ≡ take (at + offset) area ++ (part ++ drop ((at + offset) + length part) area) →
    read_slots (drop offset (field_slots spelling at size)) part area ≡ Some new
straight_taken ByteAsCell at size offset part area new is h inside e = absurd cc
straight_taken NumberAsCell at size offset part area new is h inside e = absurd cc
straight_taken AsIs at size offset part area new is h inside e =
    up_taken at size offset part area h inside ∙ ap (λ l. Some l) (sym e)

pub fixed_part : (piece : Piece) (bytes part area : List ℕ) (offset : ℕ) (agrees : Bool) →
    piece ≡ Fixed bytes → offset + length part ≤ piece_len piece →
    agrees ≡ bytes_eq (take (length part) (drop offset bytes)) part →
    read_slots (drop offset (piece_slots piece)) part area ≡ area_where agrees area
fixed_part piece bytes part area offset agrees is h e =
    subst
    (λ (p : Piece).
    offset + length part ≤ piece_len p →
    read_slots (drop offset (piece_slots p)) part area ≡ area_where agrees area)
    (sym is)
    (λ within. fixed_taken bytes part area offset within ∙ ap (λ b. area_where b area) (sym e)) h

-- ---- whole pieces

field_read : (spelling : Spelling) (at size : ℕ) (text area : List ℕ) →
    length text ≡ field_len spelling size → at + size ≤ length area →
    read_slots (field_slots spelling at size) text area
    ≡ area_where (field_agrees spelling text)
    (take at area ++ (field_value spelling text ++ drop (at + size) area))
field_read ByteAsCell at size text area e inside =
    let zeros : List ℕ = 0 ∷ 0 ∷ 0 ∷ [] in
    let low : length (drop 3 text) ≡ size = length_value_of ByteAsCell size text e in
    let high : length (take 3 text) ≡ 3 = length-take-le 3 text (omega arith) in
    led_read zeros at size (at + size) text area (omega arith) (omega arith) inside
    ∙ ap
    (λ l. area_where (bytes_eq l (take 3 text))
    (take at area ++ (drop 3 text ++ drop (at + size) area)))
    (take_all (length (take 3 text)) zeros (omega arith))
field_read NumberAsCell at size text area e inside =
    down_read at size at (at + size) text area (omega arith) (omega arith) refl inside
field_read AsIs at size text area e inside =
    up_read at size (at + size) text area (omega arith) (omega arith) inside

piece_read : (piece : Piece) (text area : List ℕ) → length text ≡ piece_len piece →
    IsInside piece (length area) →
    read_slots (piece_slots piece) text area
    ≡ area_where (piece_agrees piece text) (with_piece piece text area)
piece_read (Fixed bytes) text area e inside =
    fixed_read bytes text area (omega arith)
    ∙ ap (λ l. area_where (bytes_eq l text) area) (take_all (length text) bytes (omega arith))
piece_read (Value place) text area e inside =
    field_read place.spelling place.at place.size text area e inside

pub fields_read : (pieces : List Piece) (text area : List ℕ) →
    are_pieces pieces (length area) ≡ true → pieces_len pieces ≤ length text →
    read_slots (slots_of pieces) text area
    ≡ area_where (fields_agree pieces text) (with_fields pieces text area)
unfolding slots_of fields_agree with_fields
fields_read [] text area s h = past_read text area
fields_read (piece ∷ pieces) text area s h =
    let len : ℕ = piece_len piece in
    let slots : List ByteSlot = piece_slots piece in
    let first : len ≤ length text = enough_first piece pieces text h in
    let field : List ℕ = take len text in
    let rest : List ℕ = drop len text in
    let agrees : Bool = piece_agrees piece field in
    let next : List ℕ = with_piece piece field area in
    both_read slots (slots_of pieces) text area
    ∙ ap
    (λ k. option_and_then (read_slots (slots_of pieces) (drop k text))
    (read_slots slots (take k text) area))
    (slots_len piece)
    ∙ ap (option_and_then (read_slots (slots_of pieces) rest))
    (piece_read piece field area (length-take-le len text first)
    (inside piece pieces (length area) s))
    ∙ then_if agrees next (read_slots (slots_of pieces) rest)
    ∙ ap (λ o. cond agrees o None)
    (fields_read pieces rest next (pieces_behind piece pieces text area s first)
    (enough_behind piece pieces text h))
    ∙ both_if agrees (fields_agree pieces rest) (with_fields pieces rest next)
