use Rattle.std.proofs.Common.{◌∙◌, ap, refl, sym}
use Rattle.bb_interpreter.specs.declared.commands.Reply.TheVariants as reply
use Rattle.bb_script_commands.specs.Held.{held_of}
use Rattle.bb_script_commands.specs.OutsideWords.{outside_command}
use Rattle.bb_script_commands.specs.declared.words.OutsideCommand.TheVariants.{MarkGood, Misused}
use Rattle.bb_script_commands.proofs.Replying.{ready_after}
use Rattle.bb_script_commands.proofs.Saving.{answered_so, by_command}
use Rattle.bb_script_commands.proofs.run_command.run_command.Goals as goal

pub returns-in-MarkGood-clause-ready : goal.returns-in-MarkGood-clause-ready
returns-in-MarkGood-clause-ready g c done =
    ready_after MarkGood (held_of c.args.state.now c.args.by.now c.args.so_far.now) _ (g.B.Flash.device c.args.board.now) _ c.mark_good.result c.mark_good.ensures done

pub returns-in-Misused-clause-gives : goal.returns-in-Misused-clause-gives
returns-in-Misused-clause-gives g c =
    let held = held_of c.args.state.now c.args.by.now c.args.so_far.now in
    let device = g.B.Flash.device c.args.board.now in
    by_command (outside_command c.args.words.now) Misused held held device device (reply.Done 2 c.none.result) (sym c.outside_command.ensures ∙ c.in-Misused.is)
    (answered_so Misused held device (reply.Done 2 c.none.result) _ 2 _ c.requires refl (ap (λ text. reply.Done 2 text) c.none.ensures))
