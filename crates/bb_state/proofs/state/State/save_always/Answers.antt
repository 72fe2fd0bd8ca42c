use Rattle.std.proofs.Common.{◌∙◌, IsTrue, List, ℕ, ap, length, subst, sym}
use Rattle.std.specs.Result.{result_err}
use Rattle.bb_copies.specs.Saving.{IsSave}
use Rattle.bb_state.specs.Keyed.{Keyed}
use Rattle.bb_state.specs.State.{form_of, is_sure, keyed_of, kinds_of, used_of}
use Rattle.bb_state.proofs.Fitting.{table_fits}
use Rattle.bb_state.proofs.Tables.{table_sized}
use Rattle.bb_state.proofs.state.State.save_always.Goals as goal

pub returns-clause-save : goal.returns-clause-save
returns-clause-save g c =
    let state = c.args.self.now in
    subst
    (λ (table : List ℕ). IsSave (form_of state) (kinds_of state) (is_sure state) (used_of state) c.save.new.self.used table (g.F.Flash.device c.args.flash.now) (g.F.Flash.device c.save.new.flash) (result_err c.save.result))
    c.bytes.ensures c.save.ensures.save

pub returns-clause-on : goal.returns-clause-on
returns-clause-on g c =
    let runs = c.save.ensures.save.runs in
    record {
      geometry = runs.later.geometry ∙ c.requires.geometry ∙ ap (λ (k : Keyed). k.layout.geometry) (sym c.save.ensures.keyed);
      agrees = c.save.ensures.agrees;
      whole = runs.whole;
    }

pub save-requires-clause-fits : goal.save-requires-clause-fits
save-requires-clause-fits g c =
    let state = c.args.self.now in
    subst (λ (table : List ℕ). IsTrue ((form_of state).fits table)) (sym c.bytes.ensures)
    (table_fits (keyed_of state) state.table state.fits)

pub save-requires-clause-sized : goal.save-requires-clause-sized
save-requires-clause-sized g c = ap length c.bytes.ensures ∙ table_sized c.args.self.now
