-- The variables of a script's own: names and values.
use Rattle.std.specs.Prelude.{ℕ, List, [], ◌∷◌, if◌then◌else◌}
use Rattle.std.specs.Str.{bytes_eq}
use Rattle.bb_interpreter.specs.declared.variables.ScriptVariable.{ScriptVariable}

-- the value of the variable of a name, empty where it isn't set
abbrev pub own_value : List (List ℕ × List ℕ) → List ℕ → List ℕ
own_value [] name = []
own_value (v ∷ later) name = if bytes_eq v.0 name then v.1 else own_value later name

-- the variables, once the one of a name is set
abbrev pub own_set : List (List ℕ × List ℕ) → List ℕ → List ℕ → List (List ℕ × List ℕ)
own_set [] name value = (name, value) ∷ []
own_set (v ∷ later) name value =
    if bytes_eq v.0 name then (v.0, value) ∷ later else v ∷ own_set later name value

abbrev pub variable_pair : ScriptVariable → List ℕ × List ℕ
variable_pair v = (v.name, v.value)
