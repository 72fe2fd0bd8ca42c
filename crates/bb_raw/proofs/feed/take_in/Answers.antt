use Rattle.std.proofs.Common.{arith, take}
use Rattle.std.proofs.lemmas.List.{length-take-le}
use Rattle.bb_raw.proofs.Overlay.{fed_in}
use Rattle.bb_raw.proofs.feed.take_in.Goals as goal

pub returns-clause-held : goal.returns-clause-held
returns-clause-held c = λ fed h.
    let old = c.args.feed.now in
    fed_in old.count c.min-feed.result c.args.code_len c.args.piece.now old.header c.args.area.now (take c.args.code_len old.code)
    c.lay_over.new.part c.lay_over-2.new.part c.lay_over-3.new.part _ fed
    (omega arith) (length-take-le c.args.code_len old.code (omega arith)) c.lay_over.ensures c.lay_over-2.ensures c.lay_over-3.ensures (omega arith) h
