use Rattle.std.proofs.Common.{◌≡◌, ◌++◌, take}
use Rattle.bbx.specs.PlanFile.{initrd_lines}
use Rattle.bbx.proofs.plan_file.add_initrds.Given as goal

-- the lines of the files so far are added
abbrev pub invariant-loop-initrd : goal.invariant-loop-initrd
invariant-loop-initrd l = l.text ≡ l.fn.text ++ initrd_lines (take l.initrd-index l.initrd-items)
