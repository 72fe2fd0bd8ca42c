use Rattle.std.proofs.Common.{◌∙◌, sym}
use Rattle.bb_shell.proofs.Saves.{chosen_fits}
use Rattle.bb_state.proofs.Tables.{table_sized}
use Rattle.bb_install.proofs.steps.enable.Goals as goal

pub enable-requires-clause-sized : goal.enable-requires-clause-sized
enable-requires-clause-sized c = table_sized c.args.state.now ∙ sym c.requires.bound.area_len

pub invariant_of-state-clause-fits : goal.invariant_of-state-clause-fits
invariant_of-state-clause-fits c =
    chosen_fits c.args.chooser.now c.args.state.now c.enable.new.table c.requires.bound.vars c.enable.ensures.others
