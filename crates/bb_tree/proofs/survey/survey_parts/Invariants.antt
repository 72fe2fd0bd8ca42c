use Rattle.std.proofs.Common.{take}
use Rattle.std.specs.List.{flat_map}
use Rattle.bb_tree.specs.SlotValues.{references_of_part}
use Rattle.bb_tree.specs.Known.{known_in}
use Rattle.bb_tree.proofs.Surveying.{Surveyed}
use Rattle.bb_tree.proofs.survey.survey_parts.Given as goal

abbrev pub invariant-loop-part : goal.invariant-loop-part
invariant-loop-part l = Surveyed (known_in l.slots l.labels) l.slots (flat_map references_of_part (take l.part-index l.part-items)) l.fn.targets.items l.targets.items
