-- An install, by its target: the name by which it is known, and the line that is sent of it.
use Rattle.std.specs.Prelude.{ℕ, List, [], ◌++◌, codes, decimal, length, unwrap_or}
use Rattle.bb_chooser.specs.Binding.{Binding}
use Rattle.bb_chooser.specs.Choosing.{name_of}
use Rattle.bb_plan.specs.declared.plan.SlotImage.{SlotImage}

abbrev pub installed_name : Binding → ℕ → List ℕ
installed_name targets target = unwrap_or (name_of targets target) []

-- the target's name, and the image's length
abbrev pub installed_line : List ℕ → ℕ → List ℕ
installed_line name len =
    codes "installed " ++ (name ++ (codes " " ++ (decimal len ++ codes "\n")))

abbrev pub installed_text : Binding → ℕ → SlotImage → List ℕ
installed_text targets target place =
    installed_line (installed_name targets target) (length place.image)
