use Rattle.std.proofs.Common.{◌∙◌, ap, refl, sym, true}
use Rattle.bb_interpreter.specs.declared.commands.Reply.TheVariants as reply
use Rattle.bb_state.proofs.Tables.{table_sized}
use Rattle.bb_script_commands.specs.Held.{held_of}
use Rattle.bb_script_commands.specs.declared.words.OutsideCommand.TheVariants.{Show}
use Rattle.bb_script_commands.proofs.Saving.{answered_so, unanswered}
use Rattle.bb_script_commands.proofs.run_command.show.Goals as goal

pub counts_lines-requires : goal.counts_lines-requires
counts_lines-requires g c = table_sized c.args.state.now ∙ sym c.requires.bound.area_len

pub returns-in-Ok : goal.returns-in-Ok
returns-in-Ok g c =
    answered_so Show (held_of c.args.state.now c.args.by.now c.args.so_far.now) (g.B.Flash.device c.args.board.now) _ true 0 _ c.requires refl
    (ap (λ text. reply.Done 0 text) c.in-Ok.ensures)

pub returns-in-Err : goal.returns-in-Err
returns-in-Err g c =
    unanswered Show (held_of c.args.state.now c.args.by.now c.args.so_far.now) (g.B.Flash.device c.args.board.now) 0 _ c.requires refl
