-- The target that is marked good: its line, or the place at which there is none.
use Rattle.std.specs.Prelude.{ℕ, List, [], ◌++◌, codes, decimal, Option, Some, None, option_and_then, slice_get}
use Rattle.std.specs.Option.{option_map, option_map_or}
use Rattle.bb_chooser.specs.Binding.{Binding}
use Rattle.bb_chooser.specs.Choosing.{attempts_of, last_chosen_of}
use Rattle.bb_chooser.specs.Counting.{chosen_target}

-- the name of the target that was chosen last, and the attempts that it has
abbrev pub chosen_name : Binding → List ℕ → Option (List ℕ × ℕ)
chosen_name targets table =
    option_and_then
    (λ target.
    option_map (λ t. (t.target.name, attempts_of targets table target))
    (slice_get targets.targets target))
    (chosen_target targets table)

-- the line of a target
abbrev pub good_line : List ℕ → ℕ → List ℕ
good_line name attempts =
    codes "good " ++ (name ++ (codes " " ++ (decimal attempts ++ codes "\n")))

-- the line that is sent of it
abbrev pub good_text : Binding → List ℕ → List ℕ
good_text targets table =
    option_map_or (λ chosen. good_line chosen.0 chosen.1) (chosen_name targets table) []

-- the place that was chosen last, where it is 0 or above the number of targets
abbrev pub lost_place : Binding → List ℕ → Option ℕ
lost_place targets table =
    option_map_or (λ target. None) (chosen_target targets table)
    (Some (last_chosen_of targets table))
