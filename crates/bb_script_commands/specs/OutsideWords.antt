-- The commands that a script has from outside, by their words (barebox User Manual, Bootchooser,
-- and the commands `state`, `bootchooser` and `boot`).
use Rattle.std.specs.Prelude.{ℕ, Bool, ◌&&◌, ◌||◌, List, [], ◌∷◌, codes, if◌then◌else◌}
use Rattle.std.specs.Str.{bytes_eq}
use Rattle.bb_script_commands.specs.declared.words.OutsideCommand.{OutsideCommand}
use Rattle.bb_script_commands.specs.declared.words.OutsideCommand.TheVariants.{Boot, MarkGood, Misused, Save, Show}

-- the names
abbrev pub is_outside_name : List ℕ → Bool
is_outside_name name =
    bytes_eq name (codes "state")
    || (bytes_eq name (codes "bootchooser") || bytes_eq name (codes "boot"))

-- the name and the word after it are these
abbrev pub is_pair : List ℕ → List ℕ → List ℕ → List ℕ → Bool
is_pair name word first second = bytes_eq name first && bytes_eq word second

abbrev pub pair_command : List ℕ → List ℕ → OutsideCommand
pair_command name word =
    if is_pair name word (codes "state") (codes "-s") then Save else (
    if is_pair name word (codes "bootchooser") (codes "-s") then MarkGood else (
    if is_pair name word (codes "bootchooser") (codes "-i") then Show else (
    if is_pair name word (codes "boot") (codes "bootchooser") then Boot else Misused)))

-- each has one word after its name
abbrev pub outside_command : List (List ℕ) → OutsideCommand
outside_command [] = Misused
outside_command (name ∷ []) = Misused
outside_command (name ∷ word ∷ []) = pair_command name word
outside_command (name ∷ word ∷ more ∷ later) = Misused
