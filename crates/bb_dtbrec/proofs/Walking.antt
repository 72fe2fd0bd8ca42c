-- Steps of a walk over the pieces of a record.
use Rattle.std.proofs.Common.{◌≡◌, ℕ, zero, suc, ◌+◌, ◌-◌, ◌<◌, ◌≤◌, ◌==◌, Bool, true, false, ◌&&◌, List, [], ◌∷◌, ◌++◌, length, take, drop, get_or, min, Option, None, option_and_then, refl, sym, ap, ◌∙◌, arith, cond}
use Rattle.std.proofs.lemmas.Bool.Decides.{nat_tests}
use Rattle.std.proofs.lemmas.List.{drop-append-le, drop-drop, drop_all, drop_min, length-drop, length-take}
use Rattle.std.proofs.Math.Seq.{drop-append-add, drop-nil}
use Rattle.bb_dtbrec.specs.declared.piece.Piece.{Piece}
use Rattle.bb_dtbrec.specs.Dtb.{IsInside, are_pieces, piece_len, pieces_len}
use Rattle.bb_dtbrec.specs.Feeding.{ByteSlot, area_where, piece_slots, read_slots, slots_of, slots_within}
use Rattle.bb_dtbrec.specs.Pieces.{others_too}
use Rattle.bb_dtbrec.proofs.Slots.{both_read, past_read, slots_len, then_if}
use Rattle.bb_dtbrec.proofs.Steps.{inside_here, rest_is}

-- ---- the piece at a place

pub inside_at : (pieces : List Piece) (i : ℕ) (piece : Piece) (n : ℕ) → i < length pieces →
    piece ≡ get_or pieces i piece → are_pieces pieces n ≡ true → IsInside piece n
inside_at pieces zero piece n h e s = inside_here pieces 0 piece n h e s
inside_at [] (suc i) piece n h e s = absurd (omega arith)
inside_at (first ∷ pieces) (suc i) piece n h e s =
    inside_at pieces i piece n (omega arith) e (others_too first pieces n s)

pub len_at : (pieces : List Piece) (i : ℕ) (piece : Piece) → i < length pieces →
    piece ≡ get_or pieces i piece → piece_len piece ≤ pieces_len pieces
unfolding pieces_len
len_at [] i piece h e = absurd (omega arith)
len_at (first ∷ pieces) zero piece h e = let same = ap piece_len e in omega arith
len_at (first ∷ pieces) (suc i) piece h e =
    let most = len_at pieces i piece (omega arith) e in omega arith

-- ---- a piece more

pub slots_start : (pieces : List Piece) → slots_within pieces 0 ≡ slots_of pieces
unfolding slots_of
slots_start [] = refl
slots_start (piece ∷ pieces) = refl

-- the slots from here on are those of this piece, and those of the pieces after it
pub slots_here : (pieces : List Piece) (i : ℕ) (piece : Piece) (offset from : ℕ) →
    i < length pieces → piece ≡ get_or pieces i piece → from ≡ min offset (piece_len piece) →
    slots_within (drop i pieces) offset
    ≡ drop from (piece_slots piece) ++ slots_of (drop (i + 1) pieces)
slots_here pieces i piece offset from h e f =
    let own : List ByteSlot = piece_slots piece in
    let rest : List ByteSlot = slots_of (drop (i + 1) pieces) in
    let same : min offset (length own) ≡ from =
    ap (min offset) (slots_len piece) ∙ sym f in
    ap (λ ps. slots_within ps offset) (rest_is pieces i piece h e)
    ∙ ap (λ slots. slots ++ rest) (sym (drop_min offset own))
    ∙ ap (λ k. drop k own ++ rest) same

left_of : (piece : Piece) (from left : ℕ) → left ≡ piece_len piece - from →
    length (drop from (piece_slots piece)) ≡ left
left_of piece from left e =
    omega (arith, length-drop from (piece_slots piece), slots_len piece)

cond_and : (a b : Bool) (o : Option (List ℕ)) → cond (a && b) o None ≡ cond a (cond b o None) None
cond_and true b o = refl
cond_and false b o = refl

-- what is read from the next piece on is what is read from here on
pub walked : (pieces : List Piece) (i : ℕ) (piece : Piece) (offset from left : ℕ)
    (rest part after area new : List ℕ) (agrees here : Bool) (whole : Option (List ℕ)) →
    i < length pieces → piece ≡ get_or pieces i piece → from ≡ min offset (piece_len piece) →
    left ≡ piece_len piece - from → part ≡ take left rest → after ≡ drop left rest →
    read_slots (drop from (piece_slots piece)) part area ≡ area_where here new →
    cond agrees (read_slots (slots_within (drop i pieces) offset) rest area) None ≡ whole →
    cond (agrees && here) (read_slots (slots_within (drop (i + 1) pieces) 0) after new) None
    ≡ whole
walked pieces i piece offset from left rest part after area new agrees here whole h e f l is_part
    is_after read so_far =
    let own : List ByteSlot = drop from (piece_slots piece) in
    let others : List ByteSlot = slots_of (drop (i + 1) pieces) in
    let len : length own ≡ left = left_of piece from left l in
    let step : read_slots (slots_within (drop i pieces) offset) rest area
    ≡ cond here (read_slots others after new) None =
    ap (λ slots. read_slots slots rest area) (slots_here pieces i piece offset from h e f)
    ∙ both_read own others rest area
    ∙ ap (λ k. option_and_then (read_slots others (drop k rest)) (read_slots own (take k rest) area))
    len
    ∙ ap (λ t. option_and_then (read_slots others t) (read_slots own (take left rest) area))
    (sym is_after)
    ∙ ap (λ t. option_and_then (read_slots others after) (read_slots own t area)) (sym is_part)
    ∙ ap (option_and_then (read_slots others after)) read
    ∙ then_if here new (read_slots others after) in
    ap (λ slots. cond (agrees && here) (read_slots slots after new) None)
    (slots_start (drop (i + 1) pieces))
    ∙ cond_and agrees here (read_slots others after new)
    ∙ ap (λ o. cond agrees o None) (sym step) ∙ so_far

-- the slots after all of a piece
pub slots_next : (pieces : List Piece) (i : ℕ) (piece : Piece) (offset from left : ℕ)
    (rest after : List ℕ) (whole : List ByteSlot) →
    i < length pieces → piece ≡ get_or pieces i piece → from ≡ min offset (piece_len piece) →
    left ≡ piece_len piece - from → after ≡ drop left rest → (length after == 0) ≡ false →
    drop (length rest) (slots_within (drop i pieces) offset) ≡ whole →
    drop (length after) (slots_within (drop (i + 1) pieces) 0) ≡ whole
slots_next pieces i piece offset from left rest after whole h e f l is more so_far =
    let some : 0 < length after = grind (arith, nat_tests) in
    let own : List ByteSlot = drop from (piece_slots piece) in
    let others : List ByteSlot = slots_of (drop (i + 1) pieces) in
    let own_len : length own ≡ left = left_of piece from left l in
    let after_len : length after ≡ length rest - left = ap length is ∙ length-drop left rest in
    let len : length own + length after ≡ length rest = omega arith in
    ap (drop (length after)) (slots_start (drop (i + 1) pieces))
    ∙ sym (drop-append-add own others (length after))
    ∙ ap (λ k. drop k (own ++ others)) len
    ∙ ap (drop (length rest)) (sym (slots_here pieces i piece offset from h e f)) ∙ so_far

-- the slots after a part of it
pub slots_inside : (pieces : List Piece) (i : ℕ) (piece : Piece) (offset from left : ℕ)
    (rest part after : List ℕ) (whole : List ByteSlot) →
    i < length pieces → piece ≡ get_or pieces i piece → from ≡ min offset (piece_len piece) →
    left ≡ piece_len piece - from → part ≡ take left rest → after ≡ drop left rest →
    (length after == 0) ≡ true →
    drop (length rest) (slots_within (drop i pieces) offset) ≡ whole →
    slots_within (drop i pieces) (from + length part) ≡ whole
slots_inside pieces i piece offset from left rest part after whole h e f l is_part is_after ends
    so_far =
    let none : length after ≡ 0 = grind (arith, nat_tests) in
    let slots : List ByteSlot = piece_slots piece in
    let own : List ByteSlot = drop from slots in
    let others : List ByteSlot = slots_of (drop (i + 1) pieces) in
    let own_len : length own ≡ left = left_of piece from left l in
    let part_len : length part ≡ min left (length rest) = ap length is_part ∙ length-take left rest in
    let after_len : length after ≡ length rest - left = ap length is_after ∙ length-drop left rest in
    let all : length rest ≡ length part = omega arith in
    ap (λ ps. slots_within ps (from + length part)) (rest_is pieces i piece h e)
    ∙ ap (λ l. l ++ others) (sym (drop-drop (length part) from slots))
    ∙ sym (drop-append-le (length part) own others (omega arith))
    ∙ ap (λ k. drop k (own ++ others)) (sym all)
    ∙ ap (drop (length rest)) (sym (slots_here pieces i piece offset from h e f)) ∙ so_far

-- or after the last piece
pub slots_none : (pieces : List Piece) (i offset : ℕ) → length pieces ≤ i →
    slots_within (drop i pieces) offset ≡ []
slots_none pieces i offset h = ap (λ ps. slots_within ps offset) (drop_all i pieces h)

-- ---- the end

pub walked_off : (slots : List ByteSlot) (after area : List ℕ) (agrees : Bool)
    (whole : Option (List ℕ)) → (length after == 0) ≡ true →
    cond agrees (read_slots slots after area) None ≡ whole → whole ≡ area_where agrees area
unfolding read_slots
walked_off slots [] area agrees whole ends h = sym h
walked_off slots (byte ∷ after) area agrees whole ends h = absurd (grind (arith, nat_tests))

pub walked_all : (slots : List ByteSlot) (rest area : List ℕ) (agrees : Bool)
    (whole : Option (List ℕ)) → slots ≡ [] →
    cond agrees (read_slots slots rest area) None ≡ whole → whole ≡ area_where agrees area
walked_all slots rest area agrees whole e h =
    sym h ∙ ap (λ l. cond agrees (read_slots l rest area) None) e
    ∙ ap (λ o. cond agrees o None) (past_read rest area)

pub slots_done : (slots whole : List ByteSlot) (n : ℕ) → slots ≡ [] → drop n slots ≡ whole → [] ≡ whole
slots_done slots whole n e h = sym (ap (drop n) e ∙ drop-nil {A = ByteSlot} n) ∙ h
