-- Variables and bound targets of a layout, as the code finds them.
use Rattle.std.specs.Prelude.{ℕ, List, Option, Result}
use Rattle.bb_layout.specs.declared.layout.Layout.{Layout}
use Rattle.bb_layout.specs.declared.var.Var.{Var}
use Rattle.bb_chooser.specs.Binding.{all_bound_of, bound_of, last_chosen_name, uint32_at, variable_called}
use Rattle.bb_chooser.specs.declared.bound_target.BoundTarget.{BoundTarget}
use Rattle.bb_chooser.specs.declared.settings_error.SettingsError.{SettingsError}
use Rattle.bb_chooser.specs.declared.target.Target.{Target}

-- the variable of this name, which begins with the layout's, and the place of a uint32
abbrev pub variable_in : Layout → List ℕ → Option Var
variable_in layout full = variable_called layout.name layout.vars full

abbrev pub uint32_place : Layout → List ℕ → Result ℕ SettingsError
uint32_place layout full = uint32_at layout.name layout.vars full

-- the place of the variable that keeps which target was chosen last
abbrev pub last_chosen_place : Layout → List ℕ → Result ℕ SettingsError
last_chosen_place layout prefix = uint32_place layout (last_chosen_name prefix)

-- a target with its variables of a layout, and all of them
abbrev pub bound_in : Layout → List ℕ → Target → Result BoundTarget SettingsError
bound_in layout prefix target = bound_of layout.name layout.vars prefix target

abbrev pub all_bound_in : Layout → List ℕ → List Target → Result (List BoundTarget) SettingsError
all_bound_in layout prefix targets = all_bound_of layout.name layout.vars prefix targets
