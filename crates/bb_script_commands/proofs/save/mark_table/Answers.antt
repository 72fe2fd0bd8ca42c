use Rattle.bb_shell.proofs.Saves.{chosen_fits}
use Rattle.bb_script_commands.proofs.save.mark_table.Goals as goal

pub invariant_of-state-clause-fits : goal.invariant_of-state-clause-fits
invariant_of-state-clause-fits c =
    chosen_fits c.args.chooser.now c.args.state.now c.mark_good.new.table c.requires.vars c.mark_good.ensures.others
