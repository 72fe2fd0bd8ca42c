use Rattle.std.proofs.Common.{refl, arith}
use Rattle.bb_dtbrec.proofs.Fed.{taken}
use Rattle.bb_dtbrec.proofs.feed.take_in.Goals as goal

pub returns-clause-held : goal.returns-clause-held
returns-clause-held c =
    λ front bytes size h.
    taken front c.args.pieces.now size c.min-at.result c.args.feed.now _ bytes c.args.text.now
    c.cut.result.0.now c.cut.result.1.now c.args.area.now c.walk-agrees.new.area
    c.walk-agrees.result (omega arith) c.cut.ensures.front c.cut.ensures.back c.put.ensures
    c.feed.ensures c.walk-agrees.ensures.read c.walk-agrees.ensures.next refl refl refl h
