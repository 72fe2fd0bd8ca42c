-- The words of each session of a drill, after the device and its geometry.
use Rattle.std.specs.Prelude.{ℕ, List, [], ◌∷◌, ◌++◌, codes, decimal}
use Rattle.bb_drill.specs.declared.command.DrillCommand.{DrillCommand}
use Rattle.bb_drill.specs.declared.command.DrillCommand.TheVariants.{Priority, Boot, MarkGood, Show}
use Rattle.bb_drill_sessions.specs.Documents.{board_name, settings_name}

-- a command over the board, and one over the settings too
abbrev pub on_board : List ℕ → List (List ℕ) → List (List ℕ)
on_board command more = command ∷ codes "-i" ∷ board_name ∷ more

abbrev pub on_settings : List ℕ → List (List ℕ)
on_settings command = on_board command (codes "-c" ∷ settings_name ∷ [])

-- `-s` gives the second target a priority
abbrev pub priority_word : ℕ → List ℕ
priority_word value = codes "bootstate.system1.priority=" ++ decimal value

abbrev pub drill_words : DrillCommand → List (List ℕ)
drill_words (Priority value) =
    on_board (codes "state") (codes "-s" ∷ priority_word value ∷ [])
drill_words Boot = on_settings (codes "boot")
drill_words MarkGood = on_settings (codes "mark-good")
drill_words Show = on_board (codes "state") []
