use Rattle.std.proofs.Common.{◌≡◌, ◌∙◌, refl, ap, subst}
use Rattle.bb_state.specs.Backed.{Backed}
use Rattle.bb_state.specs.Keyed.{Keyed}
use Rattle.bb_state.specs.State.{keyed_of, laid_of, used_of}
use Rattle.bb_session.specs.Doing.{IsTold, said_of}
use Rattle.bb_session.proofs.Done.{done_barred, done_stored}
use Rattle.bb_session.proofs.Worked.{refused_by}
use Rattle.bb_session.proofs.store.store.Goals as goal

pub returns-in_err-put : goal.returns-in_err-put
returns-in_err-put g c =
    let state = c.args.state.now in
    record {
      did =
          done_barred (keyed_of state) (used_of state) state.table c.args.work.now (g.F.Flash.device c.args.flash.now) _
          c.from_residual.result _ refl c.in_err-put.ensures.put
          (refused_by c.from_residual.result _ c.from_residual.ensures.1);
    }

pub returns-in_err-save : goal.returns-in_err-save
returns-in_err-save g c = record {
  did =
      done_stored c.put.new.state c.args.state.now c.args.work.now c.saves_always.result (g.F.Flash.device c.args.flash.now)
      (g.F.Flash.device c.save.new.flash) _ _ c.requires.stores c.in_ok-put.ensures.put c.in_ok-put.ensures.backing
      c.requires.hand.kept c.saves_always.ensures c.in_err-save.ensures.saved
      (refused_by c.from_residual-in_err-save.result _ c.from_residual-in_err-save.ensures.1);
}

pub returns : goal.returns
returns g c =
    let state = c.args.state.now in
    let saved = c.save.new.state in
    let say = said_of (laid_of state) c.args.work.now in
    let same : said_of (laid_of saved) c.args.work.now saved.table ≡ say c.put.new.state.table =
    ap (λ (k : Keyed). said_of k.layout c.args.work.now saved.table)
    (c.in_ok-save.ensures.keyed ∙ ap (λ (b : Backed). b.keyed) c.in_ok-put.ensures.backing) ∙ ap say c.in_ok-save.ensures.table in
    record {
      did =
          done_stored c.put.new.state state c.args.work.now c.saves_always.result (g.F.Flash.device c.args.flash.now)
          (g.F.Flash.device c.save.new.flash) _ _ c.requires.stores c.in_ok-put.ensures.put c.in_ok-put.ensures.backing
          c.requires.hand.kept c.saves_always.ensures c.in_ok-save.ensures.saved
          (subst (λ text. IsTold text c.of.result) same (c.of.ensures _ c.say.ensures));
    }
