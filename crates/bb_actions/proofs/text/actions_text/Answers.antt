use Rattle.std.proofs.Common.{◌≡◌, [], ◌++◌, Some, ap, arith, length, refl, slice_get, ◌∙◌}
use Rattle.std.proofs.lemmas.List.{take_all}
use Rattle.std.proofs.lemmas.Option.{slice_get_read}
use Rattle.bb_layout.specs.Layout.{fields_of}
use Rattle.bb_state.proofs.Lists.{flat_map_next}
use Rattle.bb_actions.specs.Actions.{action_text, actions_text}
use Rattle.bb_actions.proofs.text.actions_text.Goals as goal

pub loop-action-preserved : goal.loop-action-preserved
loop-action-preserved c =
    let text = action_text (fields_of c.args.layout.now) c.args.area.now in
    let actions = c.as_slice-action-items.result.now in
    let action = c.action-item.result in
    let there : slice_get actions c.loop-action.action-index ≡ Some action =
    slice_get_read actions (length actions) c.loop-action.action-index action refl (omega arith) c.action-item.is in
    c.in_ok-add_action.ensures
    ∙ ap (λ before. before ++ text action) c.loop-action.invariant
    ∙ flat_map_next text [] actions c.loop-action.action-index action there

pub returns : goal.returns
returns c =
    let actions = c.as_slice-action-items.result.now in
    c.loop-action.invariant
    ∙ ap (actions_text (fields_of c.args.layout.now) c.args.area.now)
    (take_all c.loop-action.action-index actions (omega arith) ∙ c.as_slice-action-items.ensures)
