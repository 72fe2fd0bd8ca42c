-- The types of variables (barebox User Manual, State Framework).
use Rattle.std.specs.Prelude.{ℕ, ◌==◌, ◌&&◌, Bool, List, Option, Some, None, codes, if◌then◌else◌, nat_le}
use Rattle.std.specs.Str.{bytes_eq}
use Rattle.bb_layout.specs.declared.var_type.VarType.{VarType}
use Rattle.bb_layout.specs.declared.var_type.VarType.TheVariants.{Uint8, Uint32, Enum32, Mac, Chars}

-- the type of that name
abbrev pub type_named : List ℕ → Option VarType
type_named name =
    if bytes_eq name (codes "uint8") then Some Uint8
    else if bytes_eq name (codes "uint32") then Some Uint32
    else if bytes_eq name (codes "enum32") then Some Enum32
    else if bytes_eq name (codes "mac") then Some Mac
    else if bytes_eq name (codes "string") then Some Chars
    else None

-- whether a variable of the type may have that many bytes
abbrev pub may_have_size : VarType → ℕ → Bool
may_have_size Uint8 size = size == 1
may_have_size Uint32 size = size == 4
may_have_size Enum32 size = size == 4
may_have_size Mac size = size == 6
may_have_size Chars size = nat_le 1 size && nat_le size 1024
