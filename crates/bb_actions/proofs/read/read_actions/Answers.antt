use Rattle.std.proofs.Common.{◌≡◌, ◌+◌, List, Some, Ok, Err, IfErr, ap, arith, drop, length, refl, slice_get, subst, sym, ◌∙◌}
use Rattle.std.proofs.lemmas.Option.{slice_get_read}
use Rattle.std.proofs.lemmas.Result.{err_from_is_err_and}
use Rattle.bb_words.specs.declared.command.Action.{Action}
use Rattle.bb_actions.proofs.Steps.{bound_all, bound_next, misfit_next, onto_bound}
use Rattle.bb_actions.proofs.Values.{are_bound}
use Rattle.bb_actions.specs.Actions.{Refuses, read_actions}
use Rattle.bb_actions.proofs.read.read_actions.Goals as goal

pub returns-in_err-read_action-clause-refused : goal.returns-in_err-read_action-clause-refused
returns-in_err-read_action-clause-refused c =
    let vars = c.args.layout.now.vars in
    let actions = c.as_slice-action-items.result.now in
    let action = c.action-item.result in
    let p = err_from_is_err_and c.from_residual.result c.from_residual.ensures.1 in
    let there : slice_get actions c.loop-action.action-index ≡ Some action =
    slice_get_read actions (length actions) c.loop-action.action-index action refl (omega arith) c.action-item.is in
    let refused =
    misfit_next vars c.loop-action.bound actions c.loop-action.action-index action c.in_err-read_action.field-0.0 there
    c.loop-action.invariant c.in_err-read_action.ensures.refused in
    let told =
    subst (λ (l : List Action). Refuses (read_actions vars l) c.in_err-read_action.field-0.0) c.as_slice-action-items.ensures refused in
    subst (λ r. IfErr r (Refuses (read_actions vars c.args.actions.now))) (sym (p.1 ∙ ap (λ e. Err e) p.2)) told

pub loop-action-preserved : goal.loop-action-preserved
loop-action-preserved c =
    let vars = c.args.layout.now.vars in
    let actions = c.as_slice-action-items.result.now in
    let action = c.action-item.result in
    let there : slice_get actions c.loop-action.action-index ≡ Some action =
    slice_get_read actions (length actions) c.loop-action.action-index action refl (omega arith) c.action-item.is in
    c.loop-action.invariant
    ∙ bound_next vars c.loop-action.bound actions c.loop-action.action-index action c.in_ok-read_action.field-0 there
    c.in_ok-read_action.ensures.read
    ∙ ap (λ bound. onto_bound bound (read_actions vars (drop (c.loop-action.action-index + 1) actions))) (sym c.in_ok-push.ensures.ok)

pub returns-clause-read : goal.returns-clause-read
returns-clause-read c =
    let vars = c.args.layout.now.vars in
    let actions = c.as_slice-action-items.result.now in
    ap (λ (l : List Action). read_actions vars l) (sym c.as_slice-action-items.ensures)
    ∙ bound_all vars c.loop-action.bound actions c.loop-action.action-index (omega arith) c.loop-action.invariant

pub returns-clause-bound : goal.returns-clause-bound
returns-clause-bound c =
    let layout = c.args.layout.now in
    let actions = c.as_slice-action-items.result.now in
    let read : read_actions layout.vars c.args.actions.now ≡ Ok c.loop-action.bound =
    ap (λ (l : List Action). read_actions layout.vars l) (sym c.as_slice-action-items.ensures)
    ∙ bound_all layout.vars c.loop-action.bound actions c.loop-action.action-index (omega arith) c.loop-action.invariant in
    are_bound layout.area_len layout.vars layout.facts.vars_are c.args.actions.now c.loop-action.bound read
