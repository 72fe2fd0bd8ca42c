-- What is sent of a state: lines with the values of its variables, each ended by LF (barebox User
-- Manual, State Framework).
use Rattle.std.specs.Prelude.{ℕ, ◌==◌, List, [], ◌∷◌, ◌++◌, Option, if◌then◌else◌, codes, map}
use Rattle.std.specs.Prelude.{slice_range}
use Rattle.std.specs.List.{flat_map, list_any}
use Rattle.std.specs.Option.{option_map_or}
use Rattle.bb_vars.specs.Value.{text_of}
use Rattle.bb_layout.specs.Ranges.{end_of}
use Rattle.bb_layout.specs.declared.var.Var.{Var}

-- the text of a variable's value in an area
abbrev pub printed_value : List ℕ → Var → List ℕ
printed_value area v = text_of v.kind (slice_range area v.at (end_of v))

-- a line, without a variable nothing
abbrev pub value_line : List ℕ → Option Var → List ℕ
value_line area v = option_map_or (λ v. printed_value area v ++ codes "\n") v []

abbrev pub dump_line : List ℕ → Var → List ℕ
dump_line area v = v.name ++ codes "=" ++ printed_value area v ++ codes "\n"

-- a name for a shell: `_` for each `.`
abbrev pub shell_name : List ℕ → List ℕ
shell_name name = map (λ c. if c == 46 then 95 else c) name

-- a value for a shell, between two `"`: `\` before each `\`, `"`, `$` and backquote
abbrev pub shell_escape : ℕ → List ℕ
shell_escape c = if list_any (λ d. d == c) (codes "\\\"$`") then 92 ∷ c ∷ [] else c ∷ []

abbrev pub shell_value : List ℕ → List ℕ
shell_value value = flat_map shell_escape value

abbrev pub shell_line : List ℕ → List ℕ → Var → List ℕ
shell_line name area v =
    shell_name name ++ codes "_" ++ shell_name v.name ++ codes "=\""
    ++ shell_value (printed_value area v) ++ codes "\"\n"
