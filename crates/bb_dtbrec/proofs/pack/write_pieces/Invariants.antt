use Rattle.std.proofs.Common.{◌≡◌, ◌+◌, ◌++◌, true, drop, length, take}
use Rattle.bb_dtbrec.specs.Dtb.{are_pieces, pieces_len, pieces_text}
use Rattle.bb_dtbrec.proofs.pack.write_pieces.Given as goal

-- what is written, and the pieces that are left, are the whole
abbrev pub invariant-loop-piece : goal.invariant-loop-piece
invariant-loop-piece l =
    (l.at + pieces_len (drop l.piece-index l.pieces) ≡ pieces_len l.pieces)
    × (are_pieces (drop l.piece-index l.pieces) (length l.area) ≡ true)
    × (take l.at l.out ++ pieces_text (drop l.piece-index l.pieces) l.area ≡ pieces_text l.pieces l.area)
