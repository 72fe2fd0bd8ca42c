use Rattle.std.proofs.Common.{List, sym, ap, ◌∙◌}
use Rattle.std.specs.Option.{is_some, option_and_then}
use Rattle.bb_tree.specs.declared.slot.Slot.{Slot}
use Rattle.bb_tree.specs.Paths.{found, path_names}
use Rattle.bb_tree.specs.Draft.{DraftValue}
use Rattle.bb_tree.specs.Slots.{spine}
use Rattle.bb_tree.specs.Spine.{slot_led_to}
use Rattle.bb_tree.proofs.Finding.{is_some-found}
use Rattle.bb_tree.proofs.draft.Draft.has.Goals as goal

pub returns : goal.returns
returns c =
    let path = c.args.path.now in
    c.is_some.ensures ∙ ap is_some c.slot_at.ensures
    ∙ ap (λ (l : List Slot). is_some (option_and_then (slot_led_to 1 (spine l) 0) (path_names path)))
    c.deref.ensures.value
    ∙ sym (is_some-found c.self.inside.slots.items path)
    ∙ ap (λ (d : DraftValue). is_some (found path d.tree)) c.self.view_is
