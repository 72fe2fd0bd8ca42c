use Rattle.std.proofs.Common.{Option, refl, subst}
use Rattle.bb_copies.specs.declared.answers.CopyFault.{CopyFault}
use Rattle.bb_script.specs.Views.{script_tree}
use Rattle.bb_script_commands.specs.Scripts.{IsRunEnd}
use Rattle.bb_script_commands.proofs.Whole.{fault_known, ran_over}
use Rattle.bb_script_commands.proofs.run.run_script.Goals as goal

pub run_end-end-requires : goal.run_end-end-requires
run_end-end-requires g c =
    fault_known g.B.Flash.device (script_tree c.args.script.now) c.args.commands c.new-run.result c.run-end.new.self c.args.board.now c.run-end.new.device
    c.run-end.result c.fault.result c.requires c.new-run.ensures.commands c.run-end.ensures.run c.fault.ensures

pub returns : goal.returns
returns g c =
    let new = c.run-end.new.self in
    ran_over g.B.Flash.device (script_tree c.args.script.now) c.args.commands c.new-run.result new c.args.board.now c.run-end.new.device
    c.run-end.result (record { text = new.text; end = c.run_end-end.result; state = c.into_state.result }) c.requires c.new-run.ensures.fresh
    c.new-run.ensures.commands c.run-end.ensures.run
    (subst (λ (f : Option CopyFault). IsRunEnd c.run-end.result f c.run_end-end.result) c.fault.ensures c.run_end-end.ensures)
    refl c.into_state.ensures.table c.into_state.ensures.backing
