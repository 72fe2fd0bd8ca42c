-- The area that variables take: their names differ, their ranges share no byte, and it ends with
-- the last of them.
use Rattle.std.specs.Prelude.{ℕ, ◌+◌, ◌≤◌, ◌⊎◌, ◌||◌, Bool, false, List, [], ◌∷◌, Result, Ok, Err, if◌then◌else◌, max, min, nat_lt}
use Rattle.std.specs.List.{list_any}
use Rattle.std.specs.Str.{bytes_eq}
use Rattle.bb_base.specs.Form.{area_limit}
use Rattle.bb_layout.specs.declared.layout_error.LayoutError.{LayoutError}
use Rattle.bb_layout.specs.declared.layout_error.LayoutError.TheVariants.{NameTwice, Overlap, AreaTooLong}
use Rattle.bb_layout.specs.declared.var.Var.{Var}

-- whether two items of a list, one before the other, are so related
abbrev pub some_pair : {X : Type 0} → (X → X → Bool) → List X → Bool
some_pair r [] = false
some_pair r (x ∷ xs) = list_any (r x) xs || some_pair r xs

-- where a variable's bytes end in the area
abbrev pub end_of : Var → ℕ
end_of v = v.at + v.size

abbrev pub has_same_name : Var → Var → Bool
has_same_name a b = bytes_eq b.name a.name

-- some byte is in both ranges
abbrev pub shares_byte : Var → Var → Bool
shares_byte a b = nat_lt (max a.at b.at) (min (end_of a) (end_of b))

abbrev pub greatest_end : List Var → ℕ
greatest_end [] = 0
greatest_end (v ∷ vs) = max (end_of v) (greatest_end vs)

-- the length of the area, or the first refusal
abbrev pub area_len_of : List Var → Result ℕ LayoutError
area_len_of vars =
    if some_pair has_same_name vars then Err NameTwice
    else if some_pair shares_byte vars then Err Overlap
    else if nat_lt area_limit (greatest_end vars) then Err AreaTooLong
    else Ok (greatest_end vars)

-- one range ends where the other begins, or before
abbrev pub AreApart : Var → Var → Type 0
AreApart a b = (end_of a ≤ b.at) ⊎ (end_of b ≤ a.at)
