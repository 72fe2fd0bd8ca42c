use Rattle.std.proofs.Common.{◌≡◌, ℕ, List, All, Some, ap, arith, length, refl, slice_get, subst, sym, ◌∙◌}
use Rattle.std.proofs.lemmas.List.{take_all}
use Rattle.std.proofs.lemmas.Option.{slice_get_read}
use Rattle.bb_layout.specs.Outside.{ChangesVarsAlone}
use Rattle.bb_actions.specs.Actions.{FitsArea, after, after_all}
use Rattle.bb_actions.specs.declared.bound_action.BoundAction.{BoundAction}
use Rattle.bb_actions.proofs.Steps.{after_next}
use Rattle.bb_actions.proofs.Values.{put_all_alone}
use Rattle.bb_actions.proofs.table.put_values.Goals as goal

pub loop-action-init : goal.loop-action-init
loop-action-init c = record { table = refl; sized = refl }

pub put_value-requires : goal.put_value-requires
put_value-requires c =
    let actions = c.as_slice-action-items.result.now in
    let len = length c.args.table.now in
    let fit : All (FitsArea len) actions =
    subst (λ (l : List BoundAction). All (FitsArea len) l) (sym c.as_slice-action-items.ensures) c.requires in
    subst (λ (n : ℕ). FitsArea n c.action-item.result) (sym c.loop-action.invariant.sized)
    (subst (FitsArea len) (sym c.action-item.is) (fit c.loop-action.action-index c.action-item.result (omega arith)))

pub loop-action-preserved : goal.loop-action-preserved
loop-action-preserved c =
    let actions = c.as_slice-action-items.result.now in
    let action = c.action-item.result in
    let there : slice_get actions c.loop-action.action-index ≡ Some action =
    slice_get_read actions (length actions) c.loop-action.action-index action refl (omega arith) c.action-item.is in
    record {
      table =
          c.put_value.ensures.table ∙ ap (λ table. after table action) c.loop-action.invariant.table
          ∙ after_next c.args.table.now actions c.loop-action.action-index action there;
      sized = c.put_value.ensures.same_length ∙ c.loop-action.invariant.sized;
    }

pub returns-clause-table : goal.returns-clause-table
returns-clause-table c =
    let actions = c.as_slice-action-items.result.now in
    c.loop-action.invariant.table
    ∙ ap (after_all c.args.table.now) (take_all c.loop-action.action-index actions (omega arith) ∙ c.as_slice-action-items.ensures)

pub returns-clause-outside : goal.returns-clause-outside
returns-clause-outside c = λ vars bound.
    let before = c.args.table.now in
    let actions = c.as_slice-action-items.result.now in
    let whole : c.loop-action.table ≡ after_all before c.args.actions.now =
    c.loop-action.invariant.table
    ∙ ap (after_all before) (take_all c.loop-action.action-index actions (omega arith) ∙ c.as_slice-action-items.ensures) in
    subst (ChangesVarsAlone vars before) (sym whole) (put_all_alone vars before c.args.actions.now bound c.requires)
