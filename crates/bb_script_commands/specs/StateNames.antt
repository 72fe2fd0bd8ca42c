-- The variables of a state as a script names them: the layout's name, a `.`, and the variable's own
-- name (barebox User Manual, State Framework).
use Rattle.std.specs.Prelude.{ℕ, ◌==◌, ◌&&◌, List, [], ◌∷◌, Option, Some, None, if◌then◌else◌, drop, length, take, is_none}
use Rattle.std.specs.Option.{option_map, option_map_or}
use Rattle.std.specs.Str.{bytes_eq, is_utf8}
use Rattle.bb_layout.specs.declared.var.Var.{Var}
use Rattle.bb_state.specs.Lines.{printed_value}
use Rattle.bb_state.specs.Named.{after_set, refusal_for, var_of}
use Rattle.bb_interpreter.specs.Outside.{Outside}
use Rattle.bb_script_commands.specs.Held.{Held, Known, known_of}
use Rattle.bb_script_commands.specs.OutsideWords.{is_outside_name}

-- what stands after a `.`
abbrev pub after_dot : List ℕ → Option (List ℕ)
after_dot [] = None
after_dot (c ∷ later) = if c == 46 then Some later else None

-- and after the layout's name and a `.`; none where the name doesn't begin with them
abbrev pub below_layout : List ℕ → List ℕ → Option (List ℕ)
below_layout layout name =
    if bytes_eq (take (length layout) name) layout
    then after_dot (drop (length layout) name)
    else None

-- the variable of its own name, which is a text
abbrev pub var_called : List Var → List ℕ → Option Var
var_called vars name = if is_utf8 name then var_of vars name else None

-- the text of its value, or nothing where there is no such variable
abbrev pub value_text : List Var → List ℕ → List ℕ → List ℕ
value_text vars table name =
    option_map_or (λ v. printed_value table v) (var_called vars name) []

abbrev pub state_value : Known → List ℕ → Option (List ℕ)
state_value known name =
    option_map (value_text known.layout.vars known.table) (below_layout known.layout.name name)

-- what is left once it is set; none where there is no such variable, or the text is no value of it
abbrev pub table_set : List Var → List ℕ → List ℕ → List ℕ → Option (List ℕ)
table_set vars table name value =
    if is_utf8 name && is_none (refusal_for vars name value)
    then Some (after_set vars name value table)
    else None

-- by the variable's whole name; none where the layout's name isn't its beginning
abbrev pub state_set : Known → List ℕ → List ℕ → Option (Option (List ℕ))
state_set known name value =
    option_map (λ own. table_set known.layout.vars known.table own value)
    (below_layout known.layout.name name)

-- these variables, and the commands, for what has such a table, and with another one
abbrev pub outside_over : {C : Type 0} → (C → Known) → (C → List ℕ → C) → Outside C
outside_over known put = record {
  value_of = λ c name. state_value (known c) name;
  set_by = λ c name value.
      option_map (λ set. option_map (put c) set) (state_set (known c) name value);
  is_command = is_outside_name;
}

abbrev pub state_outside : Outside Held
state_outside = outside_over known_of (λ held table. record held { table = table })
