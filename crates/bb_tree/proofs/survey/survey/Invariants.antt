use Rattle.std.proofs.Common.{take}
use Rattle.std.specs.List.{flat_map}
use Rattle.bb_tree.specs.Slots.{props_at}
use Rattle.bb_tree.specs.SlotValues.{references_of_props}
use Rattle.bb_tree.specs.Known.{known_in}
use Rattle.bb_tree.proofs.Surveying.{Surveyed}
use Rattle.bb_tree.proofs.survey.survey.Given as goal

abbrev pub invariant-loop-k : goal.invariant-loop-k
invariant-loop-k l = Surveyed (known_in l.slots l.labels) l.slots (flat_map (λ k. references_of_props (props_at l.slots k)) (take l.k-index l.order)) l.fn.targets.items l.targets.items
