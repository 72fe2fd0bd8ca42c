use Rattle.std.proofs.Common.{refl, arith}
use Rattle.bb_dtbrec.proofs.Fed.{started}
use Rattle.bb_dtbrec.proofs.feed.start_record.Goals as goal

pub returns : goal.returns
returns c =
    λ size.
    started c.args.front.now c.args.pieces.now size _ (omega (arith, c.pieces_len-len.ensures)) refl
    refl refl refl c.front_crc-crc.ensures
