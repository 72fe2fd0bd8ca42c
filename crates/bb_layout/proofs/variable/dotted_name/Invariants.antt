use Rattle.std.proofs.Common.{◌≡◌, map, take}
use Rattle.std.specs.List.{join_with_byte}
use Rattle.std.specs.String.{string_bytes}
use Rattle.bb_layout.specs.Fields.{base_name}
use Rattle.bb_layout.proofs.variable.dotted_name.Given as goal

-- the names so far, joined
abbrev pub invariant-loop-i : goal.invariant-loop-i
invariant-loop-i l = string_bytes l.name ≡ join_with_byte 46 (map base_name (take l.i l.parts))
