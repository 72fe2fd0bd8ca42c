use Rattle.std.proofs.Common.{◌≡◌, List, None, false, sym, ap, ◌∙◌, arith}
use Rattle.std.specs.Option.{option_and_then, is_some}
use Rattle.bb_tree.specs.declared.part.Part.{Part}
use Rattle.bb_tree.specs.declared.slot.Slot.{Slot}
use Rattle.bb_tree.specs.Node.{Branch}
use Rattle.bb_tree.specs.Draft.{DraftValue}
use Rattle.bb_tree.specs.DraftViews.{draft_of}
use Rattle.bb_tree.specs.Paths.{path_names, found}
use Rattle.bb_tree.specs.Merge.{merged}
use Rattle.bb_tree.specs.Slots.{spine, slots_tree}
use Rattle.bb_tree.specs.Texts.{texts_in}
use Rattle.bb_tree.specs.Spine.{slot_led_to}
use Rattle.bb_tree.proofs.Finding.{is_some-found, path_within, merged_walk}
use Rattle.bb_tree.proofs.draft.Draft.merge.Goals as goal

pub unreachable-requires : goal.unreachable-requires
unreachable-requires c =
    let path = c.args.path.now in
    let rooted = c.with_root.new.slots.items in
    let none : option_and_then (slot_led_to 1 (spine rooted) 0) (path_names path) ≡ None =
    ap (λ (l : List Slot). option_and_then (slot_led_to 1 (spine l) 0) (path_names path))
    (sym c.deref.ensures.value) ∙ sym c.slot_at.ensures ∙ c.in_default.is in
    let lost : is_some (found path c.args.self.tree) ≡ false =
    ap (λ (d : DraftValue). is_some (found path d.tree)) (sym c.self.view_is)
    ∙ ap (λ (t : Branch (List Part)). is_some (found path t)) (sym c.in_ok-with_root.ensures.same)
    ∙ is_some-found rooted path ∙ ap is_some none in
    absurd (cc (c.requires, lost))

pub merge_into-requires-clause-within : goal.merge_into-requires-clause-within
merge_into-requires-clause-within c =
    let rooted = c.with_root.new.slots.items in
    let led =
    ap (λ (l : List Slot). option_and_then (slot_led_to 1 (spine l) 0) (path_names c.args.path.now))
    (sym c.deref.ensures.value) ∙ sym c.slot_at.ensures ∙ c.in-Some.is in
    omega (
      arith,
      path_within rooted c.args.path.now c.in-Some.k c.in_ok-with_root.ensures.some led,
      c.with_root.new.slots.ok.0,
    )

pub returns-clause-ok : goal.returns-clause-ok
returns-clause-ok c =
    let path = c.args.path.now in
    let i = c.self.inside in
    let body = draft_of c.args.node in
    let rooted = c.with_root.new.slots.items in
    let led =
    ap (λ (l : List Slot). option_and_then (slot_led_to 1 (spine l) 0) (path_names path))
    (sym c.deref.ensures.value) ∙ sym c.slot_at.ensures ∙ c.in-Some.is in
    let tree : slots_tree c.merge_into.new.slots.items ≡ merged (slots_tree i.slots.items) path body =
    merged_walk rooted c.merge_into.new.slots.items path body c.in-Some.k led
    c.in_ok-merge_into.ensures
    ∙ ap (λ (t : Branch (List Part)). merged t path body) c.in_ok-with_root.ensures.same in
    let with_tree : Branch (List Part) → DraftValue =
    λ t. record { tree = t; labels = (texts_in i.labels.entries); reserved = i.reserved } in
    ap with_tree tree ∙ ap (λ (x : DraftValue). record {
      tree = merged x.tree path body;
      labels = x.labels;
      reserved = x.reserved;
    }) c.self.view_is
