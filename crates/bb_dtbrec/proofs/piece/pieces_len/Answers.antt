use Rattle.std.proofs.Common.{◌≡◌, drop, arith}
use Rattle.bb_dtbrec.specs.Dtb.{pieces_len}
use Rattle.bb_dtbrec.proofs.Steps.{len_none}
use Rattle.bb_dtbrec.proofs.piece.pieces_len.Goals as goal

pub returns : goal.returns
returns c =
    let none : pieces_len (drop c.loop-piece.piece-index c.args.pieces.now) ≡ 0 =
    len_none c.args.pieces.now c.loop-piece.piece-index (omega arith) in
    omega arith
