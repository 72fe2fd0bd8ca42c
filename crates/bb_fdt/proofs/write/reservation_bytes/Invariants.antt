use Rattle.std.proofs.Common.{◌≡◌, ◌++◌, take}
use Rattle.std.specs.List.{flat_map}
use Rattle.bb_tree.specs.Blob.{double_word}
use Rattle.bb_fdt.proofs.write.reservation_bytes.Given as goal

-- the pairs so far are written
abbrev pub invariant-loop-pair : goal.invariant-loop-pair
invariant-loop-pair l = l.bytes.items ≡ flat_map (λ p. double_word p.0 ++ double_word p.1) (take l.pair-index l.pair-items)
