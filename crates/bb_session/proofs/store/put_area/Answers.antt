use Rattle.std.proofs.Common.{◌∙◌, sym}
use Rattle.bb_state.proofs.Fitting.{raw_fits}
use Rattle.bb_state.proofs.Tables.{table_sized}
use Rattle.bb_session.proofs.Worked.{put_whole}
use Rattle.bb_session.proofs.store.put_area.Goals as goal

pub invariant_of-state-clause-fits : goal.invariant_of-state-clause-fits
invariant_of-state-clause-fits c =
    raw_fits c.args.state.now.backing.keyed c.put.new.self c.args.state.now.facts c.requires.served.0.format
    (c.put.ensures.same_length ∙ table_sized c.args.state.now)

pub returns-clause-table : goal.returns-clause-table
returns-clause-table c =
    c.put.ensures.replaced ∙ put_whole c.args.state.now.table c.args.area.now (c.requires.served.1 ∙ sym (table_sized c.args.state.now))
