-- A variable by its name: what it holds in an area, and what it makes of an area to set it.
use Rattle.std.specs.Prelude.{◌≡◌, ◌≢◌, ℕ, List, Option, Some, Result, Ok, Err, find, option_map}
use Rattle.std.specs.Option.{option_map_or}
use Rattle.std.specs.Result.{result_err, result_unwrap_or}
use Rattle.std.specs.Str.{bytes_eq}
use Rattle.bb_vars.specs.Setting.{with_value}
use Rattle.bb_vars.specs.Value.{bytes_of}
use Rattle.bb_layout.specs.declared.var.Var.{Var}
use Rattle.bb_state.specs.Lines.{printed_value}
use Rattle.bb_state.specs.declared.error.StateError.{StateError}
use Rattle.bb_state.specs.declared.error.StateError.TheVariants.{NoMemory, NoSuchVariable, Value}

-- the variable of that name
abbrev pub var_of : List Var → List ℕ → Option Var
var_of vars name = find (λ v. bytes_eq name v.name) vars

-- the text of its value in an area
abbrev pub text_for : List Var → List ℕ → List ℕ → Result (List ℕ) StateError
text_for vars name area =
    option_map_or (λ v. Ok (printed_value area v)) (var_of vars name) (Err NoSuchVariable)

-- an answer is refused as it is expected, unless memory was refused
abbrev pub Refuses : {A : Type 0} → Result A StateError → StateError → Type 0
Refuses expected e = e ≢ NoMemory → expected ≡ Err e

-- why a text is no value of it, if it is none
abbrev pub refusal_for : List Var → List ℕ → List ℕ → Option StateError
refusal_for vars name text =
    option_map_or (λ v. option_map (λ cause. Value cause) (result_err (bytes_of v.kind text)))
    (var_of vars name)
    (Some NoSuchVariable)

-- the area in which it has the value that a text stands for; where that is refused the area is as
-- before
abbrev pub after_set : List Var → List ℕ → List ℕ → List ℕ → List ℕ
after_set vars name text area =
    option_map_or (λ v. result_unwrap_or (with_value v.kind v.at text area) area)
    (var_of vars name)
    area
