-- The names of the properties of a layout's records.
use Rattle.std.specs.Prelude.{ℕ, List, [], ◌∷◌, codes}
use Rattle.bb_layout.specs.declared.var.Var.{Var}

-- in the order of the strings block: where there is no variable, no property is named `value`
abbrev pub fixed_names : List (List ℕ)
fixed_names = codes "bb,crc32" ∷ codes "compatible" ∷ codes "magic" ∷ []

abbrev pub record_names : List Var → List (List ℕ)
record_names [] = fixed_names
record_names (v ∷ vs) =
    codes "bb,crc32" ∷ codes "compatible" ∷ codes "magic" ∷ codes "value" ∷ []
