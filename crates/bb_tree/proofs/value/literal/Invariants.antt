use Rattle.std.proofs.Common.{◌≡◌, take}
use Rattle.bb_tree.specs.Resolve.{literal}
use Rattle.bb_tree.proofs.value.literal.Given as goal

abbrev pub invariant-loop-part : goal.invariant-loop-part
invariant-loop-part l = l.bytes ≡ literal (take l.part-index l.part-items)
