use Rattle.bb_state.specs.State.{keyed_of}
use Rattle.bb_state.proofs.Fitting.{changed_fits}
use Rattle.bb_state.proofs.Tables.{set_outside}
use Rattle.bb_state.proofs.state.State.set.Goals as goal

pub invariant_of-self : goal.invariant_of-self
invariant_of-self c =
    let state = c.args.self.now in
    let outside = set_outside state c.layout.result.now c.args.name.now c.args.text.now c.set_value.new.table c.layout.ensures c.set_value.ensures.table in
    record { fits = changed_fits (keyed_of state) state.table c.set_value.new.table state.facts state.fits outside; facts = state.facts }

pub returns-clause-outside : goal.returns-clause-outside
returns-clause-outside c =
    set_outside c.args.self.now c.layout.result.now c.args.name.now c.args.text.now c.set_value.new.table c.layout.ensures c.set_value.ensures.table
