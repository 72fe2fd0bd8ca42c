use Rattle.std.proofs.Common.{subst}
use Rattle.bb_tool.specs.Sending.{IsSentMade}
use Rattle.bb_plan.specs.declared.status.Status.{Status}
use Rattle.bb_tool.proofs.Lines.{told_made}
use Rattle.bb_tool.proofs.send.send_refusal.Goals as goal

pub returns-in-None : goal.returns-in-None
returns-in-None g c =
    let before = g.K.Sink.sink c.args.sink.now in
    let after = g.K.Sink.sink c.send_made.new.sink in
    record {
      told =
          told_made c.line.result c.args.refusal.now before after c.send_made.result (c.fixed_line.ensures.made c.in-None.is) c.line.ensures
          (subst (λ (s : Status). IsSentMade c.line.result s before after c.send_made.result) c.status-in-None.ensures c.send_made.ensures.told);
    }
