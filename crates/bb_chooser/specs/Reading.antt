-- Lines that are read one after the other, as parts of a text between line feeds.
use Rattle.std.specs.Prelude.{◌≡◌, ℕ, ◌+◌, List, [], Option, Some, None, Result, Ok, if◌then◌else◌, length, nat_lt, slice_get, unwrap_or}
use Rattle.std.specs.Str.Lines.{lines_of_parts, strip_carriage_return}
use Rattle.bb_chooser.specs.GivenSoFar.{given_with}
use Rattle.bb_chooser.specs.Settings.{Given, given_by, settings_from}
use Rattle.bb_chooser.specs.declared.setting.Setting.{Setting}
use Rattle.bb_chooser.specs.declared.settings_error.SettingsError.{SettingsError}

-- what the lines of these parts set, the first of which has this number
abbrev pub settings_in_parts : ℕ → List (List ℕ) → Result (List Setting) SettingsError
settings_in_parts number parts = settings_from number (lines_of_parts parts)

-- the settings give this
abbrev pub IsGivenBy : Given → Result (List Setting) SettingsError → Type 0
IsGivenBy given result =
    (settings : List Setting) × (result ≡ Ok settings) × (given ≡ given_by settings)

-- the part at a place, as a line
abbrev pub line_in : List (List ℕ) → ℕ → List ℕ
line_in parts i =
    let part = unwrap_or (slice_get parts i) [] in
    if nat_lt (i + 1) (length parts) then strip_carriage_return part else part

-- a setting more, if there is one
abbrev pub with_setting : Option Setting → Given → Given
with_setting None given = given
with_setting (Some setting) given = given_with setting given

-- what a line sets is taken
abbrev pub TakesSetting : Result (Option Setting) SettingsError → Given → Given → Type 0
TakesSetting line old new =
    (setting : Option Setting) × (line ≡ Ok setting) × (new ≡ with_setting setting old)
