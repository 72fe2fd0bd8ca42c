-- What is sent of a history: lines, each ended by LF.
use Rattle.std.specs.Prelude.{ℕ, ◌+◌, List, [], ◌∷◌, ◌++◌, codes, decimal, length}
use Rattle.std.specs.List.{flat_map}
use Rattle.bb_layout.specs.declared.var.Var.{Var}
use Rattle.bb_state.specs.Lines.{dump_line}

-- how many entries a copy has
abbrev pub count_line : ℕ → ℕ → List ℕ
count_line copy count =
    codes "copy " ++ (decimal copy ++ (codes " entries " ++ (decimal count ++ codes "\n")))

-- the number of an entry
abbrev pub entry_line : ℕ → List ℕ
entry_line number = codes "entry " ++ (decimal number ++ codes "\n")

-- and after it each variable of its area
abbrev pub numbered_text : List Var → ℕ → List ℕ → List ℕ
numbered_text vars number area = entry_line number ++ flat_map (dump_line area) vars

-- entries from a number on
abbrev pub entries_text : List Var → ℕ → List (List ℕ) → List ℕ
entries_text vars number [] = []
entries_text vars number (area ∷ areas) =
    numbered_text vars number area ++ entries_text vars (number + 1) areas

-- of a copy, by the areas of its history
abbrev pub copy_text : List Var → ℕ → List (List ℕ) → List ℕ
copy_text vars copy areas = count_line copy (length areas) ++ entries_text vars 1 areas
