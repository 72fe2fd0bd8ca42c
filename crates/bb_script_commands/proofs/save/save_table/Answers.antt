use Rattle.std.proofs.Common.{◌∙◌, Some, None, ap, refl}
use Rattle.std.proofs.lemmas.Bool.{false≢true}
use Rattle.bb_interpreter.specs.declared.commands.Reply.TheVariants as reply
use Rattle.bb_shell.proofs.Saves.{saved_err, saved_ok}
use Rattle.bb_state.specs.State.{used_of}
use Rattle.bb_script_commands.proofs.Saving.{save_called}
use Rattle.bb_script_commands.proofs.save.save_table.Goals as goal

pub save-requires : goal.save-requires
save-requires g c = record { geometry = c.requires.geometry; agrees = c.requires.agrees; whole = c.requires.whole }

pub returns-in-Ok : goal.returns-in-Ok
returns-in-Ok g c =
    let saved = c.in-Ok.ensures in
    let from = g.B.Flash.device c.args.board.now in
    let to = g.B.Flash.device c.save.new.flash in
    save_called c.args.state.now c.save.new.self c.args.by.now c.args.so_far.now c.args.so_far.now None (reply.Done 0 c.none.result) from to c.requires
    (saved_ok c.args.state.now (used_of c.save.new.self) from to c.requires.sure saved.idle saved.save saved.used)
    (λ _. saved.kept ∙ saved.table) saved.sure saved.keyed saved.on c.requires.unfailed refl saved.table (ap (λ text. reply.Done 0 text) c.none.ensures)

pub returns-in-Err : goal.returns-in-Err
returns-in-Err g c =
    let saved = c.in-Err.ensures in
    let fault = c.in-Err.fault in
    let from = g.B.Flash.device c.args.board.now in
    let to = g.B.Flash.device c.save.new.flash in
    save_called c.args.state.now c.save.new.self c.args.by.now c.args.so_far.now (record c.args.so_far.now { fault = Some fault }) (Some fault) reply.Fault from to
    c.requires
    (saved_err c.args.state.now (used_of c.save.new.self) fault from to c.requires.sure (λ kept. false≢true (saved.same kept)) saved.save)
    (λ p. cc) saved.sure saved.keyed saved.on refl refl saved.table refl
