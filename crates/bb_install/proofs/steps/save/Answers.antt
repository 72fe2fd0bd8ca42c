use Rattle.std.proofs.Common.{◌∙◌, None, Some, refl, sym}
use Rattle.std.proofs.lemmas.Bool.{false≢true}
use Rattle.bb_shell.proofs.Saves.{saved_err, saved_ok}
use Rattle.bb_state.specs.State.{used_of}
use Rattle.bb_install.proofs.steps.save.Goals as goal

pub returns-in-Ok-clause-step : goal.returns-in-Ok-clause-step
returns-in-Ok-clause-step g c =
    let saved = c.in-Ok.ensures in
    record {
      refusal = None;
      run =
          saved_ok c.args.state.now (used_of c.save.new.self) (g.F.Flash.device c.args.flash.now) (g.F.Flash.device c.save.new.flash)
          c.requires.sure saved.idle saved.save saved.used;
      gives = refl;
    }

pub returns-in-Err-clause-step : goal.returns-in-Err-clause-step
returns-in-Err-clause-step g c =
    let saved = c.in-Err.ensures in
    record {
      refusal = Some c.in-Err.fault;
      run =
          saved_err c.args.state.now (used_of c.save.new.self) c.in-Err.fault (g.F.Flash.device c.args.flash.now)
          (g.F.Flash.device c.save.new.flash) c.requires.sure (λ kept. false≢true (saved.same kept)) saved.save;
      gives = refl;
    }

pub returns-in-Ok-clause-leaves : goal.returns-in-Ok-clause-leaves
returns-in-Ok-clause-leaves g c =
    let saved = c.in-Ok.ensures in
    record { keyed = saved.keyed; table = saved.table; on = saved.on; sure = saved.sure; kept = λ sure. saved.kept }

pub returns-in-Err-clause-leaves : goal.returns-in-Err-clause-leaves
returns-in-Err-clause-leaves g c =
    let saved = c.in-Err.ensures in
    record {
      keyed = saved.keyed;
      table = saved.table;
      on = saved.on;
      sure = saved.sure;
      kept = λ sure. absurd (false≢true (sym saved.sure ∙ sure));
    }
