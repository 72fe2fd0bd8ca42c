use Rattle.std.proofs.Common.{◌∙◌, Err, ap, subst, sym, arith}
use Rattle.std.proofs.lemmas.Grind.{common_steps}
use Rattle.std.proofs.lemmas.Result.{err_from_is_err_and}
use Rattle.bb_copies.specs.Loading.{IsLoad}
use Rattle.bb_state.specs.Keyed.{Keyed}
use Rattle.bb_state.specs.State.{form_of, kinds_of}
use Rattle.bb_state.proofs.state.State.load.Goals as goal

pub returns-in_err-loaded-clause-load : goal.returns-in_err-loaded-clause-load
returns-in_err-loaded-clause-load g c =
    let p = err_from_is_err_and c.from_residual.result c.from_residual.ensures.1 in
    subst (λ r. IsLoad (form_of c.args.self.now) (kinds_of c.args.self.now) c.load.new.self.stored (g.F.Flash.device c.args.flash.now) (g.F.Flash.device c.load.new.flash) r)
    (sym (p.1 ∙ ap (λ e. Err e) p.2)) c.in_err-loaded.ensures.load

pub returns-clause-load : goal.returns-clause-load
returns-clause-load g c = c.in_ok-loaded.ensures.load

pub returns-in_err-loaded-clause-on : goal.returns-in_err-loaded-clause-on
returns-in_err-loaded-clause-on g c =
    let runs = c.in_err-loaded.ensures.load.runs in
    record {
      geometry = runs.later.geometry ∙ c.requires.geometry ∙ ap (λ (k : Keyed). k.layout.geometry) (sym c.load.ensures.keyed);
      agrees = c.load.ensures.agrees;
      whole = runs.whole;
    }

pub returns-clause-on : goal.returns-clause-on
returns-clause-on g c =
    let runs = c.in_ok-loaded.ensures.load.runs in
    record {
      geometry = runs.later.geometry ∙ c.requires.geometry ∙ ap (λ (k : Keyed). k.layout.geometry) (sym c.load.ensures.keyed);
      agrees = c.load.ensures.agrees;
      whole = runs.whole;
    }

pub invariant_of-self-2 : goal.invariant_of-self-2
invariant_of-self-2 g c = grind (arith, common_steps)

pub returns-clause-table : goal.returns-clause-table
returns-clause-table g c = grind (arith, common_steps)

pub returns-clause-kept : goal.returns-clause-kept
returns-clause-kept g c = grind (arith, common_steps)
