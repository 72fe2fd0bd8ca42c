use Rattle.std.proofs.Common.{◌≡◌, true, take}
use Rattle.std.specs.List.{list_all}
use Rattle.bb_fdt.specs.Tokens.{is_name_byte}
use Rattle.bb_fdt.proofs.name.is_name.Given as goal

-- the bytes so far are a name's
abbrev pub invariant-loop-c : goal.invariant-loop-c
invariant-loop-c l = list_all is_name_byte (take l.c-index l.name) ≡ true
