-- What an area of any length, which was stored under another layout of the family, is under a
-- layout.
use Rattle.std.specs.Prelude.{ℕ, ◌-◌, List, ◌++◌, fold, length, nat_le, replicate, take, if◌then◌else◌}
use Rattle.bb_vars.specs.Table.{table_with}
use Rattle.bb_layout.specs.Layout.{Laid}
use Rattle.bb_layout.specs.Ranges.{end_of}
use Rattle.bb_layout.specs.declared.var.Var.{Var}

-- an area's first bytes, as many as are wanted, with zero bytes after its end
abbrev pub resized : ℕ → List ℕ → List ℕ
resized len area = take len area ++ replicate (len - length area) 0

-- a variable that ends within the bytes that were stored keeps them, and any other has its default
abbrev pub kept_or_default : ℕ → List ℕ → Var → List ℕ
kept_or_default stored_len area v =
    if nat_le (end_of v) stored_len then area else table_with area v.at v.default

-- The area of a layout for a stored one. A variable that ends within the stored area has its stored
-- bytes, and any other its default. A byte outside the variables is the stored one, or 0 after the
-- stored area's end.
abbrev pub convert_of : ℕ → List Var → List ℕ → List ℕ
convert_of area_len vars stored =
    fold (kept_or_default (length stored)) (resized area_len stored) vars

-- the same of what a layout says
abbrev pub convert : Laid → List ℕ → List ℕ
convert layout stored = convert_of layout.area_len layout.vars stored
