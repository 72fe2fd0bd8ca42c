-- Lines of settings (barebox User Manual, Bootchooser).
use Rattle.std.specs.Prelude.{ℕ, ◌==◌, Bool, true, not, ◌||◌, List, codes, drop, find, length, nat_eq, Option, Some, None, Result, Ok, Err, if◌then◌else◌}
use Rattle.std.specs.List.{after_first, before_first, list_any, starts_with}
use Rattle.std.specs.Option.{option_map_or}
use Rattle.std.specs.Str.{is_utf8}
use Rattle.bb_layout.specs.Results.{result_and_then}
use Rattle.bb_chooser.specs.Keys.{is_target_name, setting_key_of, target_key_of}
use Rattle.bb_chooser.specs.Values.{all_zero_in, events_in, file_value, flag_in, names_value, number_in, prefix_value, without_quotes}
use Rattle.bb_chooser.specs.declared.fault.Fault.{Fault}
use Rattle.bb_chooser.specs.declared.fault.Fault.TheVariants as fault
use Rattle.bb_chooser.specs.declared.key.Key.{Key}
use Rattle.bb_chooser.specs.declared.key.Key.TheVariants as general
use Rattle.bb_chooser.specs.declared.key.TargetKey.{TargetKey}
use Rattle.bb_chooser.specs.declared.key.TargetKey.TheVariants as own
use Rattle.bb_chooser.specs.declared.setting.Setting.{Setting}
use Rattle.bb_chooser.specs.declared.setting.Setting.TheVariants.{Targets, StatePrefix, DefaultAttempts, DefaultPriority, ResetAttempts, ResetPriorities, Retry, DisableOnZeroAttempts, BootOf, AttemptsOf, PriorityOf}
use Rattle.bb_chooser.specs.declared.settings_error.SettingsError.{SettingsError}
use Rattle.bb_chooser.specs.declared.settings_error.SettingsError.TheVariants.{BadLine, TargetTwice, BadNumber, BadEvent, NoMemory}

-- ---- a key and its value

-- one that is set for all targets, and one that is set for a target of this name
abbrev pub general_setting_of : Key → List ℕ → Result Setting Fault
general_setting_of general.Targets value =
    result_and_then (λ names. Ok (Targets names)) (names_value value)
general_setting_of general.StatePrefix value =
    result_and_then (λ prefix. Ok (StatePrefix prefix)) (prefix_value value)
general_setting_of general.DefaultAttempts value =
    result_and_then (λ n. Ok (DefaultAttempts n)) (number_in value)
general_setting_of general.DefaultPriority value =
    result_and_then (λ n. Ok (DefaultPriority n)) (number_in value)
general_setting_of general.ResetAttempts value =
    result_and_then (λ events. Ok (ResetAttempts events)) (events_in value)
general_setting_of general.ResetPriorities value =
    result_and_then (λ b. Ok (ResetPriorities b)) (all_zero_in value)
general_setting_of general.Retry value =
    result_and_then (λ b. Ok (Retry b)) (flag_in value)
general_setting_of general.DisableOnZeroAttempts value =
    result_and_then (λ b. Ok (DisableOnZeroAttempts b)) (flag_in value)

abbrev pub own_setting_of : TargetKey → List ℕ → List ℕ → Result Setting Fault
own_setting_of own.Boot name value =
    result_and_then (λ file. Ok (BootOf name file)) (file_value value)
own_setting_of own.DefaultAttempts name value =
    result_and_then (λ n. Ok (AttemptsOf name n)) (number_in value)
own_setting_of own.DefaultPriority name value =
    result_and_then (λ n. Ok (PriorityOf name n)) (number_in value)

-- what stands before and after the first such byte, if there is one
abbrev pub sides_at : ℕ → List ℕ → Option (List ℕ × List ℕ)
sides_at c text =
    if list_any (λ b. b == c) text
    then Some (before_first (λ b. b == c) text, after_first (λ b. b == c) text)
    else None

-- a target's name, a `.` and what is set for it
abbrev pub named_setting_of : List ℕ × List ℕ → List ℕ → Result Setting Fault
named_setting_of (name, own) value =
    if is_target_name name
    then option_map_or (λ k. own_setting_of k name value) (target_key_of own) (Err fault.BadLine)
    else Err fault.BadLine

-- a key that is set for one target, and its value
abbrev pub target_setting_of : List ℕ → List ℕ → Result Setting Fault
target_setting_of key value =
    option_map_or (λ names. named_setting_of names value) (sides_at 46 key) (Err fault.BadLine)

-- any key and its value
abbrev pub setting_of : List ℕ → List ℕ → Result Setting Fault
setting_of key value =
    option_map_or (λ k. general_setting_of k value) (setting_key_of key) (target_setting_of key value)

-- ---- a line

abbrev pub is_blank : ℕ → Bool
is_blank c = c == 32 || c == 9

-- nothing but blanks, or a `#` after them
abbrev pub sets_nothing : List ℕ → Bool
sets_nothing line = option_map_or (λ c. c == 35) (find (λ c. not (is_blank c)) line) true

-- what each line that sets something begins with
abbrev pub front : List ℕ
front = codes "global.bootchooser."

-- a key, `=` and a value
abbrev pub pair_setting_of : List ℕ → Result Setting Fault
pair_setting_of text =
    option_map_or
    (λ pair. setting_of pair.0 (without_quotes pair.1))
    (sides_at 61 text) (Err fault.BadLine)

-- the front, a key, `=` and a value
abbrev pub assignment_of : List ℕ → Result Setting Fault
assignment_of line =
    if starts_with nat_eq line front
    then pair_setting_of (drop (length front) line)
    else Err fault.BadLine

-- what a line sets, if anything
abbrev pub setting_in_line : List ℕ → Result (Option Setting) Fault
setting_in_line line =
    if not (is_utf8 line) then Err fault.BadLine
    else if sets_nothing line then Ok None
    else result_and_then (λ setting. Ok (Some setting)) (assignment_of line)

-- a line that is refused, by its number
abbrev pub fault_at : ℕ → Fault → SettingsError
fault_at number fault.BadLine = BadLine number
fault_at number fault.TargetTwice = TargetTwice number
fault_at number fault.BadNumber = BadNumber number
fault_at number fault.BadEvent = BadEvent number
fault_at number fault.NoMemory = NoMemory
