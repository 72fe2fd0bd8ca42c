-- What the fields of a draft stand for.
use Rattle.bb_tree.specs.declared.draft.Draft.TheInside.{Inside}
use Rattle.bb_tree.specs.Draft.{DraftValue}
use Rattle.bb_tree.specs.Texts.{texts_in}
use Rattle.bb_tree.specs.Slots.{slots_tree, IsSound}

abbrev pub draft_value : Inside → DraftValue
draft_value d = record {
  tree = slots_tree d.slots.items;
  labels = texts_in d.labels.entries;
  reserved = d.reserved;
}

abbrev pub IsWholeDraft : Inside → Type 0
IsWholeDraft d = IsSound d.slots.items
