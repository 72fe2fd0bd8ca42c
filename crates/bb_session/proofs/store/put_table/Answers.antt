use Rattle.std.proofs.Common.{All, subst, sym}
use Rattle.bb_actions.proofs.Values.{are_fitting}
use Rattle.bb_actions.specs.Actions.{FitsArea}
use Rattle.bb_state.proofs.Fitting.{changed_fits}
use Rattle.bb_state.proofs.Tables.{table_sized}
use Rattle.bb_state.specs.State.{keyed_of, laid_of}
use Rattle.bb_session.proofs.store.put_table.Goals as goal

pub put_values-requires : goal.put_values-requires
put_values-requires c =
    let state = c.args.state.now in
    subst (λ n. All (FitsArea n) c.args.actions.now) (sym (table_sized state))
    (are_fitting (laid_of state).area_len (laid_of state).vars state.facts.vars_are c.args.actions.now c.requires.served)

pub invariant_of-state-clause-fits : goal.invariant_of-state-clause-fits
invariant_of-state-clause-fits c =
    let state = c.args.state.now in
    changed_fits (keyed_of state) state.table c.put_values.new.table state.facts state.fits
    (c.put_values.ensures.outside (laid_of state).vars c.requires.served)
