-- The kinds of variables (barebox User Manual, State Framework).
use Rattle.std.specs.Prelude.{ℕ, ◌<◌, ◌^◌, ⊤, length}
use Rattle.bb_vars.specs.declared.kind.Kind.{Kind}
use Rattle.bb_vars.specs.declared.kind.Kind.TheVariants.{Uint8, Uint32, Enum32, Mac, Chars}

-- how many bytes a value has
abbrev pub size_of : Kind → ℕ
size_of Uint8 = 1
size_of Uint32 = 4
size_of (Enum32 names) = 4
size_of Mac = 6
size_of (Chars size) = size

-- an index of a name fits 4 bytes
abbrev pub HasFewNames : Kind → Type 0
HasFewNames Uint8 = ⊤
HasFewNames Uint32 = ⊤
HasFewNames (Enum32 names) = length names < 2 ^ 32
HasFewNames Mac = ⊤
HasFewNames (Chars size) = ⊤
