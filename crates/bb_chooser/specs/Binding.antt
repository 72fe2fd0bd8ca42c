-- Targets that are bound to the variables of a layout (barebox User Manual, Bootchooser).
use Rattle.std.specs.Prelude.{◌≡◌, ℕ, ◌+◌, ◌<◌, ◌≤◌, Bool, false, true, List, ◌++◌, codes, map, All, AllPairs, Any, Option, Some, None, Result, Ok, Err, if◌then◌else◌, option_and_then, slice_get}
use Rattle.std.specs.Str.{bytes_eq}
use Rattle.bb_base.specs.Form.{area_limit}
use Rattle.bb_layout.specs.Results.{all_ok, result_and_then}
use Rattle.bb_layout.specs.VarNames.{place_of_var}
use Rattle.bb_layout.specs.declared.layout.Layout.{Layout}
use Rattle.bb_layout.specs.declared.var.Var.{Var}
use Rattle.bb_vars.specs.declared.kind.Kind.{Kind}
use Rattle.bb_vars.specs.declared.kind.Kind.TheVariants.{Uint8, Uint32, Enum32, Mac, Chars}
use Rattle.bb_chooser.specs.Lines.{sides_at}
use Rattle.bb_chooser.specs.Settings.{Configuration}
use Rattle.bb_chooser.specs.declared.bound_target.BoundTarget.{BoundTarget}
use Rattle.bb_chooser.specs.declared.rules.Rules.{Rules}
use Rattle.bb_chooser.specs.declared.settings_error.SettingsError.{SettingsError}
use Rattle.bb_chooser.specs.declared.settings_error.SettingsError.TheVariants.{NoSuchVariable, NotUint32}
use Rattle.bb_chooser.specs.declared.target.Target.{Target}

-- ---- names of variables

-- a prefix, a `.` and what stands below it
abbrev pub full_name : List ℕ → List ℕ → List ℕ
full_name prefix item = prefix ++ (codes "." ++ item)

-- of the target that was chosen last, and of a target's attempts and priority
abbrev pub last_chosen_name : List ℕ → List ℕ
last_chosen_name prefix = full_name prefix (codes "last_chosen")

abbrev pub attempts_name : List ℕ → List ℕ → List ℕ
attempts_name prefix name = full_name prefix (name ++ codes ".remaining_attempts")

abbrev pub priority_name : List ℕ → List ℕ → List ℕ
priority_name prefix name = full_name prefix (name ++ codes ".priority")

-- ---- a layout's variable, by the layout's name, a `.` and its own

-- the variable of its own name
abbrev pub variable_named : List Var → List ℕ → Option Var
variable_named vars name = option_and_then (slice_get vars) (place_of_var vars name)

-- and the one that is called so
abbrev pub variable_called : List ℕ → List Var → List ℕ → Option Var
variable_called layout vars full =
    option_and_then
    (λ names. if bytes_eq names.0 layout then variable_named vars names.1 else None)
    (sides_at 46 full)

-- a number of 4 bytes
abbrev pub is_uint32 : Kind → Bool
is_uint32 Uint8 = false
is_uint32 Uint32 = true
is_uint32 (Enum32 names) = false
is_uint32 Mac = false
is_uint32 (Chars size) = false

-- the place of a uint32 in the area, of this variable, and of the one that is called so
abbrev pub uint32_in : List ℕ → Option Var → Result ℕ SettingsError
uint32_in full None = Err (NoSuchVariable full)
uint32_in full (Some v) = if is_uint32 v.kind then Ok v.at else Err (NotUint32 full)

abbrev pub uint32_at : List ℕ → List Var → List ℕ → Result ℕ SettingsError
uint32_at layout vars full = uint32_in full (variable_called layout vars full)

-- ---- targets

-- a target with the places of its variables
abbrev pub bound_at : Target → ℕ → ℕ → BoundTarget
bound_at target attempts_at priority_at =
    record { target = target; attempts_at = attempts_at; priority_at = priority_at }

-- a target's attempts, and then its priority
abbrev pub bound_of : List ℕ → List Var → List ℕ → Target → Result BoundTarget SettingsError
bound_of layout vars prefix target =
    result_and_then (λ attempts_at.
    result_and_then (λ priority_at. Ok (bound_at target attempts_at priority_at))
    (uint32_at layout vars (priority_name prefix target.name)))
    (uint32_at layout vars (attempts_name prefix target.name))

-- each of them; or the first that the layout doesn't have so
abbrev pub all_bound_of : List ℕ → List Var → List ℕ → List Target
    → Result (List BoundTarget) SettingsError
all_bound_of layout vars prefix targets = all_ok (map (bound_of layout vars prefix) targets)

-- targets and the places of their variables in an area of so many bytes
pub record Binding : Type 0 where
  pub targets : List BoundTarget
  pub rules : Rules
  pub last_chosen_at : ℕ
  pub area_len : ℕ

abbrev pub binding : List BoundTarget → Rules → ℕ → ℕ → Binding
binding targets rules last_chosen_at area_len = record {
  targets = targets;
  rules = rules;
  last_chosen_at = last_chosen_at;
  area_len = area_len;
}

-- what is configured, bound to variables of an area: target by target, and the last chosen one's
-- place last
abbrev pub bind_from : Configuration → List ℕ → List Var → ℕ → Result Binding SettingsError
bind_from configuration layout vars area_len =
    result_and_then (λ targets.
    result_and_then (λ last. Ok (binding targets configuration.rules last area_len))
    (uint32_at layout vars (last_chosen_name configuration.prefix)))
    (all_bound_of layout vars configuration.prefix configuration.targets)

-- bound to variables of a layout
abbrev pub bind_of : Configuration → Layout → Result Binding SettingsError
bind_of configuration layout = bind_from configuration layout.name layout.vars layout.area_len

-- ---- what is true of every chooser

-- no byte is in both of two uint32s
abbrev pub ShareNothing : ℕ → ℕ → Type 0
ShareNothing p q = (k : ℕ) → p ≤ k → k < p + 4 → q ≤ k → k < q + 4 → ⊥

-- a target's two variables are in an area of so many bytes
pub record IsInside (area_len : ℕ) (t : BoundTarget) : Type 0 where
  pub attempts : t.attempts_at + 4 ≤ area_len
  pub priority : t.priority_at + 4 ≤ area_len

-- they are apart from each other and from the last chosen one's place
pub record StandsAlone (last_chosen_at : ℕ) (t : BoundTarget) : Type 0 where
  pub own : ShareNothing t.attempts_at t.priority_at
  pub attempts : ShareNothing t.attempts_at last_chosen_at
  pub priority : ShareNothing t.priority_at last_chosen_at

-- and from another target's
pub record StandApart (t u : BoundTarget) : Type 0 where
  pub attempts : ShareNothing t.attempts_at u.attempts_at
  pub priorities : ShareNothing t.priority_at u.priority_at
  pub first_attempts : ShareNothing t.attempts_at u.priority_at
  pub second_attempts : ShareNothing u.attempts_at t.priority_at

-- an area holds them all, each apart from each other
pub record IsBinding (b : Binding) : Type 0 where
  pub area_most : b.area_len ≤ area_limit
  pub last_inside : b.last_chosen_at + 4 ≤ b.area_len
  pub each_inside : All (IsInside b.area_len) b.targets
  pub each_alone : All (StandsAlone b.last_chosen_at) b.targets
  pub pairs_apart : AllPairs StandApart b.targets

-- ---- what is true of a chooser and the layout to which it was bound

-- a variable of 4 bytes has this place
abbrev pub IsVarAt : List Var → ℕ → Type 0
IsVarAt vars at = Any (λ v. (v.at ≡ at) × (v.size ≡ 4)) vars

-- each of its places is that of one of these variables
pub record IsBoundTo (vars : List Var) (b : Binding) : Type 0 where
  pub last_chosen : IsVarAt vars b.last_chosen_at
  pub attempts : All (λ t. IsVarAt vars t.attempts_at) b.targets
  pub priorities : All (λ t. IsVarAt vars t.priority_at) b.targets
