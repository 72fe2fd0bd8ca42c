use Rattle.std.proofs.Common.{◌≡◌, map, take}
use Rattle.bb_tree.specs.NodeViews.{prop_pair}
use Rattle.bb_tree.specs.Slots.{props_at}
use Rattle.bb_tree.specs.SlotValues.{values_in}
use Rattle.bb_tree.specs.Known.{known_in}
use Rattle.bb_tree.proofs.write.finished_props.Given as goal

abbrev pub invariant-loop-i : goal.invariant-loop-i
invariant-loop-i l = map prop_pair l.props ≡ values_in (known_in l.slots l.labels) l.slots (take l.i (props_at l.slots l.k))
