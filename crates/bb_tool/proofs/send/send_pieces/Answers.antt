use Rattle.bb_tool.proofs.Pieces.{told_both, told_cut}
use Rattle.bb_tool.proofs.send.send_pieces.Goals as goal

pub returns-in-Ok : goal.returns-in-Ok
returns-in-Ok g c = record {
  told =
      told_both c.args.first.now c.args.second.now c.args.ended (g.K.Sink.sink c.args.sink.now) (g.K.Sink.sink c.write.new.self)
      (g.K.Sink.sink c.send_text.new.sink) c.send_text.result c.in-Ok.ensures.sent c.in-Ok.ensures.counts c.send_text.ensures.told;
}

pub returns-in-Err : goal.returns-in-Err
returns-in-Err g c = record {
  told =
      told_cut c.args.first.now c.args.second.now c.args.ended (g.K.Sink.sink c.args.sink.now) (g.K.Sink.sink c.write.new.self) c.status_unsent.result
      c.status_unsent.ensures c.in-Err.ensures.counts c.in-Err.ensures.front;
}
