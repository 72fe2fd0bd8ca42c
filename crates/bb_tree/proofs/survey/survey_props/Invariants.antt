use Rattle.std.proofs.Common.{take}
use Rattle.std.specs.List.{flat_map}
use Rattle.bb_tree.specs.Slots.{props_at}
use Rattle.bb_tree.specs.SlotValues.{references_of_prop}
use Rattle.bb_tree.specs.Known.{known_in}
use Rattle.bb_tree.proofs.Surveying.{Surveyed}
use Rattle.bb_tree.proofs.survey.survey_props.Given as goal

abbrev pub invariant-loop-i : goal.invariant-loop-i
invariant-loop-i l = Surveyed (known_in l.slots l.labels) l.slots (flat_map references_of_prop (take l.i (props_at l.slots l.k))) l.fn.targets.items l.targets.items
