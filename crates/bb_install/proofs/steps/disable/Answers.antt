use Rattle.std.proofs.Common.{◌∙◌, refl, sym}
use Rattle.bb_shell.proofs.Saves.{chosen_fits}
use Rattle.bb_state.proofs.Tables.{table_sized}
use Rattle.bb_install.proofs.Stepping.{chosen_none, chosen_other}
use Rattle.bb_install.proofs.steps.disable.Goals as goal

pub disable-requires-clause-sized : goal.disable-requires-clause-sized
disable-requires-clause-sized c = table_sized c.args.state.now ∙ sym c.requires.bound.area_len

pub choose-requires : goal.choose-requires
choose-requires c = c.disable.ensures.others.same_length ∙ table_sized c.args.state.now ∙ sym c.requires.bound.area_len

pub invariant_of-state-clause-fits : goal.invariant_of-state-clause-fits
invariant_of-state-clause-fits c =
    chosen_fits c.args.chooser.now c.args.state.now c.disable.new.table c.requires.bound.vars c.disable.ensures.others

pub returns-then-is_some-clause-other : goal.returns-then-is_some-clause-other
returns-then-is_some-clause-other c =
    chosen_other c.args.chooser.now c.disable.new.table c.choose.result c.choose.ensures.best (sym c.is_some.ensures ∙ c.if-is_some.true)

pub returns-clause-other : goal.returns-clause-other
returns-clause-other c = (
  chosen_none c.args.chooser.now c.disable.new.table (c.choose.ensures.none.0 (sym c.is_some.ensures ∙ c.if-is_some.false)),
  refl,
)
