use Rattle.std.proofs.Common.{◌≡◌, ◌++◌, take}
use Rattle.bb_tree.specs.Blob.{strings_block}
use Rattle.bb_fdt.proofs.names.Names.write.Given as goal

-- the names so far are written
abbrev pub invariant-loop-i : goal.invariant-loop-i
invariant-loop-i l = l.bytes.items ≡ l.fn.bytes.items ++ strings_block (take l.i l.self)
