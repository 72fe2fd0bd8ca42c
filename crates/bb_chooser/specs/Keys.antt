-- The keys of settings (barebox User Manual, Bootchooser).
use Rattle.std.specs.Prelude.{ℕ, ◌==◌, Bool, not, ◌&&◌, ◌||◌, List, codes, length, Option, Some, None, is_none, if◌then◌else◌}
use Rattle.std.specs.Char.{is_ascii_alphanumeric}
use Rattle.std.specs.List.{list_all}
use Rattle.std.specs.Str.{bytes_eq}
use Rattle.bb_chooser.specs.declared.key.Key.{Key}
use Rattle.bb_chooser.specs.declared.key.Key.TheVariants as general
use Rattle.bb_chooser.specs.declared.key.TargetKey.{TargetKey}
use Rattle.bb_chooser.specs.declared.key.TargetKey.TheVariants as own

-- what is set for all targets
abbrev pub setting_key_of : List ℕ → Option Key
setting_key_of word =
    if bytes_eq word (codes "targets") then Some general.Targets
    else if bytes_eq word (codes "state_prefix") then Some general.StatePrefix
    else if bytes_eq word (codes "default_attempts") then Some general.DefaultAttempts
    else if bytes_eq word (codes "default_priority") then Some general.DefaultPriority
    else if bytes_eq word (codes "reset_attempts") then Some general.ResetAttempts
    else if bytes_eq word (codes "reset_priorities") then Some general.ResetPriorities
    else if bytes_eq word (codes "retry") then Some general.Retry
    else if bytes_eq word (codes "disable_on_zero_attempts") then Some general.DisableOnZeroAttempts
    else None

-- what is set for one target
abbrev pub target_key_of : List ℕ → Option TargetKey
target_key_of word =
    if bytes_eq word (codes "boot") then Some own.Boot
    else if bytes_eq word (codes "default_attempts") then Some own.DefaultAttempts
    else if bytes_eq word (codes "default_priority") then Some own.DefaultPriority
    else None

-- `_` and `-` stand in names beside letters and digits
abbrev pub is_name_letter : ℕ → Bool
is_name_letter c = is_ascii_alphanumeric c || c == 95 || c == 45

abbrev pub has_name_letters : List ℕ → Bool
has_name_letters word = list_all is_name_letter word

-- a target is called by one or more of these, and by no key that is set for all targets
abbrev pub is_target_name : List ℕ → Bool
is_target_name word = not (length word == 0) && has_name_letters word && is_none (setting_key_of word)
