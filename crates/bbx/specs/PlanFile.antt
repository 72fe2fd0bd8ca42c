-- The file into which a device after a file writes the plan of a start. Its name and its form are
-- this project's profile.
use Rattle.std.specs.Prelude.{ℕ, ◌==◌, List, [], ◌++◌, if◌then◌else◌, codes, decimal, length}
use Rattle.std.specs.List.{flat_map}
use Rattle.bb_flash.specs.declared.plan.Plan.{Plan}

-- a line of a key, a space and its value, ended by LF; without a value there is none
abbrev pub plan_line_of : List ℕ → List ℕ → List ℕ
plan_line_of key value =
    if length value == 0 then [] else key ++ codes " " ++ value ++ codes "\n"

abbrev pub initrd_lines : List (List ℕ) → List ℕ
initrd_lines initrds = flat_map (plan_line_of (codes "initrd")) initrds

abbrev pub plan_text : Plan → List ℕ
plan_text plan =
    plan_line_of (codes "place") (decimal plan.place)
    ++ plan_line_of (codes "linux") plan.linux
    ++ initrd_lines plan.initrds
    ++ plan_line_of (codes "options") plan.options
    ++ plan_line_of (codes "devicetree") plan.devicetree
