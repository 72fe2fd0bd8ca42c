-- Steps through the pieces of a record, and what their loops keep.
use Rattle.std.proofs.Common.{◌≡◌, ℕ, ◌+◌, ◌<◌, ◌≤◌, true, List, [], ◌∷◌, ◌++◌, length, take, take_all, drop, get_or, sym, ap, ◌∙◌, append_assoc}
use Rattle.std.proofs.lemmas.Bool.{and_parts, leb-true}
use Rattle.std.proofs.lemmas.List.{append-nil, drop_all, drop_more}
use Rattle.bb_dtbrec.specs.declared.piece.Piece.{Piece}
use Rattle.bb_dtbrec.specs.declared.piece.Piece.TheVariants.{Fixed, Value}
use Rattle.bb_dtbrec.specs.Dtb.{IsInside, are_pieces, piece_len, piece_text, pieces_len, pieces_text}
use Rattle.bb_dtbrec.specs.Pieces.{others_too}

pub rest_is : (pieces : List Piece) (i : ℕ) (piece : Piece) → i < length pieces →
    piece ≡ get_or pieces i piece → drop i pieces ≡ piece ∷ drop (i + 1) pieces
rest_is pieces i piece h e =
    drop_more pieces i piece h ∙ ap (λ p. p ∷ drop (i + 1) pieces) (sym e)

pub len_more : (pieces : List Piece) (i : ℕ) (piece : Piece) → i < length pieces →
    piece ≡ get_or pieces i piece →
    pieces_len (drop i pieces) ≡ piece_len piece + pieces_len (drop (i + 1) pieces)
unfolding pieces_len
len_more pieces i piece h e = ap pieces_len (rest_is pieces i piece h e)

pub text_more : (pieces : List Piece) (i : ℕ) (piece : Piece) (area : List ℕ) → i < length pieces →
    piece ≡ get_or pieces i piece →
    pieces_text (drop i pieces) area ≡ piece_text piece area ++ pieces_text (drop (i + 1) pieces) area
unfolding pieces_text
text_more pieces i piece area h e = ap (λ ps. pieces_text ps area) (rest_is pieces i piece h e)

pub sound_more : (pieces : List Piece) (i : ℕ) (piece : Piece) (n : ℕ) → i < length pieces →
    piece ≡ get_or pieces i piece → are_pieces (drop i pieces) n ≡ true →
    are_pieces (drop (i + 1) pieces) n ≡ true
sound_more pieces i piece n h e s =
    others_too piece (drop (i + 1) pieces) n
    (sym (ap (λ ps. are_pieces ps n) (rest_is pieces i piece h e)) ∙ s)

pub inside : (piece : Piece) (pieces : List Piece) (n : ℕ) →
    are_pieces (piece ∷ pieces) n ≡ true → IsInside piece n
unfolding are_pieces
inside (Fixed bytes) pieces n h = tt
inside (Value place) pieces n h = leb-true _ _ (and_parts _ _ (and_parts _ _ h).0).1

pub inside_here : (pieces : List Piece) (i : ℕ) (piece : Piece) (n : ℕ) → i < length pieces →
    piece ≡ get_or pieces i piece → are_pieces (drop i pieces) n ≡ true → IsInside piece n
inside_here pieces i piece n h e s =
    inside piece (drop (i + 1) pieces) n
    (sym (ap (λ ps. are_pieces ps n) (rest_is pieces i piece h e)) ∙ s)

-- a piece more is written
pub written_more : (pieces : List Piece) (i : ℕ) (piece : Piece) (area old new whole : List ℕ)
    (at end : ℕ) → i < length pieces → piece ≡ get_or pieces i piece →
    take end new ≡ take at old ++ piece_text piece area →
    take at old ++ pieces_text (drop i pieces) area ≡ whole →
    take end new ++ pieces_text (drop (i + 1) pieces) area ≡ whole
written_more pieces i piece area old new whole at end h e put so_far =
    let rest : List ℕ = pieces_text (drop (i + 1) pieces) area in
    ap (λ l. l ++ rest) put
    ∙ append_assoc (take at old) (piece_text piece area) rest
    ∙ ap (λ l. take at old ++ l) (sym (text_more pieces i piece area h e))
    ∙ so_far

-- the end of the pieces
pub len_none : (pieces : List Piece) (i : ℕ) → length pieces ≤ i → pieces_len (drop i pieces) ≡ 0
unfolding pieces_len
len_none pieces i h = ap pieces_len (drop_all i pieces h)

text_none : (pieces : List Piece) (i : ℕ) (area : List ℕ) → length pieces ≤ i →
    pieces_text (drop i pieces) area ≡ []
unfolding pieces_text
text_none pieces i area h = ap (λ ps. pieces_text ps area) (drop_all i pieces h)

pub written_all : (pieces : List Piece) (i : ℕ) (area out whole : List ℕ) (at : ℕ) →
    length pieces ≤ i → length out ≤ at →
    take at out ++ pieces_text (drop i pieces) area ≡ whole → out ≡ whole
written_all pieces i area out whole at ended full so_far =
    sym (take_all at out full) ∙ sym (append-nil (take at out))
    ∙ ap (λ l. take at out ++ l) (sym (text_none pieces i area ended)) ∙ so_far
