use Rattle.std.proofs.Common.{◌∙◌, sym}
use Rattle.bb_state.proofs.Tables.{table_sized}
use Rattle.bb_session.proofs.Done.{done_boot}
use Rattle.bb_session.proofs.boot.boot.Goals as goal

pub returns : goal.returns
returns g c = record {
  did =
      done_boot c.args.chooser.now c.args.cause c.args.plans.now c.args.state.now c.boot_run-end.new.state
      (g.B.Flash.device c.args.board.now) (g.B.Flash.device c.boot_run-end.new.board) c.boot_run-end.result c.report.result
      c.requires.hand.kept c.count.ensures.binding (table_sized c.args.state.now ∙ sym c.requires.served.sized)
      c.boot_run-end.ensures.booted c.report.ensures.gives;
}
