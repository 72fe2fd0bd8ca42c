-- What the actions of a command do to the variables of a state, one after another.
use Rattle.std.specs.Prelude.{◌≡◌, ℕ, ◌+◌, ◌≤◌, ⊤, All, Contains, List, [], Result, Ok, Err, IsSome, fold, length, map, ok_or}
use Rattle.std.specs.List.{flat_map}
use Rattle.std.specs.Result.{result_map_both}
use Rattle.bb_layout.specs.Layout.{Laid}
use Rattle.bb_layout.specs.Results.{all_ok, result_and_then}
use Rattle.bb_layout.specs.declared.var.Var.{Var}
use Rattle.bb_state.specs.Lines.{dump_line, shell_line, value_line}
use Rattle.bb_state.specs.Named.{var_of}
use Rattle.bb_state.specs.declared.error.StateError.{StateError}
use Rattle.bb_state.specs.declared.error.StateError.TheVariants.{NoSuchVariable, Value}
use Rattle.bb_vars.specs.Table.{table_with}
use Rattle.bb_vars.specs.Value.{bytes_of}
use Rattle.bb_words.specs.declared.command.Action.{Action}
use Rattle.bb_words.specs.declared.command.Action.TheVariants as actions
use Rattle.bb_actions.specs.declared.bound_action.BoundAction.{BoundAction}
use Rattle.bb_actions.specs.declared.bound_action.BoundAction.TheVariants.{Put, Get, Dump, DumpShell}
use Rattle.bb_actions.specs.declared.error.ActionError.{ActionError}
use Rattle.bb_actions.specs.declared.error.ActionError.TheVariants.{Misfit, NoMemory}

-- ---- bound to the variables of a layout

-- what doesn't fit is refused by the variable's name and the cause
abbrev pub Bound : Type 0 → Type 0
Bound A = Result A (List ℕ × StateError)

-- the variable of that name
abbrev pub var_named : List Var → List ℕ → Bound Var
var_named vars name = ok_or (var_of vars name) (name, NoSuchVariable)

-- its value that a text stands for, at its place
abbrev pub put_into : List ℕ → List ℕ → Var → Bound BoundAction
put_into name text var =
    result_map_both (λ bytes. Put var.at bytes) (λ cause. (name, Value cause))
    (bytes_of var.kind text)

abbrev pub read_action : List Var → Action → Bound BoundAction
read_action vars (actions.Set name text) =
    result_and_then (put_into name text) (var_named vars name)
read_action vars (actions.Get name) = result_and_then (λ var. Ok (Get name)) (var_named vars name)
read_action vars actions.Dump = Ok Dump
read_action vars actions.DumpShell = Ok DumpShell

-- all of them, or the first that doesn't fit
abbrev pub read_actions : List Var → List Action → Bound (List BoundAction)
read_actions vars actions = all_ok (map (read_action vars) actions)

-- the variable of this name and the cause are told, unless memory was refused
abbrev pub IsMisfit : List ℕ → StateError → ActionError → Type 0
IsMisfit name cause (Misfit named for) = (named ≡ name) × (for ≡ cause)
IsMisfit name cause NoMemory = ⊤

-- they are refused as it is expected, unless memory was refused
abbrev pub Refuses : {A : Type 0} → Bound A → ActionError → Type 0
Refuses expected (Misfit name cause) = expected ≡ Err (name, cause)
Refuses expected NoMemory = ⊤

-- bytes at the place of one of these variables, as many as it has
pub record IsValueIn (vars : List Var) (at : ℕ) (bytes : List ℕ) : Type 0 where
  pub var : Var
  pub among : Contains vars var
  pub at_is : at ≡ var.at
  pub sized : length bytes ≡ var.size

-- what an action puts is a value of one of these variables, and what it gets is one of them
abbrev pub IsBoundTo : List Var → BoundAction → Type 0
IsBoundTo vars (Put at bytes) = IsValueIn vars at bytes
IsBoundTo vars (Get name) = IsSome (var_of vars name)
IsBoundTo vars Dump = ⊤
IsBoundTo vars DumpShell = ⊤

abbrev pub AreBoundTo : List Var → List BoundAction → Type 0
AreBoundTo vars actions = All (IsBoundTo vars) actions

-- ---- the table that the sets make

-- what an action puts ends in an area of this length
abbrev pub FitsArea : ℕ → BoundAction → Type 0
FitsArea len (Put at bytes) = at + length bytes ≤ len
FitsArea len (Get name) = ⊤
FitsArea len Dump = ⊤
FitsArea len DumpShell = ⊤

abbrev pub after : List ℕ → BoundAction → List ℕ
after table (Put at bytes) = table_with table at bytes
after table (Get name) = table
after table Dump = table
after table DumpShell = table

abbrev pub after_all : List ℕ → List BoundAction → List ℕ
after_all table actions = fold after table actions

-- ---- the text

-- the lines of one action: the value of the variable that it names, or a line for each variable in
-- the layout's order
abbrev pub action_text : Laid → List ℕ → BoundAction → List ℕ
action_text layout area (Put at bytes) = []
action_text layout area (Get name) = value_line area (var_of layout.vars name)
action_text layout area Dump = flat_map (dump_line area) layout.vars
action_text layout area DumpShell = flat_map (shell_line layout.name area) layout.vars

abbrev pub actions_text : Laid → List ℕ → List BoundAction → List ℕ
actions_text layout area actions = flat_map (action_text layout area) actions
