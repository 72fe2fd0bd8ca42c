use Rattle.std.proofs.Common.{◌≡◌, ◌+◌, drop}
use Rattle.bb_dtbrec.specs.Dtb.{pieces_len}
use Rattle.bb_dtbrec.proofs.piece.pieces_len.Given as goal

-- with the pieces that are left it is the whole
abbrev pub invariant-loop-piece : goal.invariant-loop-piece
invariant-loop-piece l = l.len + pieces_len (drop l.piece-index l.pieces) ≡ pieces_len l.pieces
