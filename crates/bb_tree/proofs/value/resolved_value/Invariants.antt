use Rattle.std.proofs.Common.{◌≡◌, take}
use Rattle.bb_tree.specs.SlotValues.{slot_value}
use Rattle.bb_tree.specs.Known.{known_in}
use Rattle.bb_tree.proofs.value.resolved_value.Given as goal

abbrev pub invariant-loop-part : goal.invariant-loop-part
invariant-loop-part l = l.bytes ≡ slot_value (known_in l.slots l.labels) l.slots (take l.part-index l.part-items)
