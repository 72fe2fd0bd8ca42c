-- What settings say, by the list of their lines (barebox User Manual, Bootchooser).
use Rattle.std.specs.Prelude.{ℕ, ◌+◌, ◌==◌, Bool, false, List, [], ◌∷◌, ◌++◌, codes, length, map, Option, Some, None, Result, Ok, Err, if◌then◌else◌, unwrap_or}
use Rattle.std.specs.Option.{option_or, option_to_list}
use Rattle.std.specs.Str.{bytes_eq}
use Rattle.std.specs.Str.Lines.{lines}
use Rattle.bb_layout.specs.Results.{result_and_then}
use Rattle.bb_chooser.specs.Values.{NamesDiffer}
use Rattle.bb_chooser.specs.Lines.{fault_at, setting_in_line}
use Rattle.bb_chooser.specs.declared.events.Events.{Events}
use Rattle.bb_chooser.specs.declared.fault.Fault.{Fault}
use Rattle.bb_chooser.specs.declared.rules.Rules.{Rules}
use Rattle.bb_chooser.specs.declared.setting.Setting.{Setting}
use Rattle.bb_chooser.specs.declared.setting.Setting.TheVariants as sets
use Rattle.bb_chooser.specs.declared.settings_error.SettingsError.{SettingsError}
use Rattle.bb_chooser.specs.declared.settings_error.SettingsError.TheVariants.{NoTargets}
use Rattle.bb_chooser.specs.declared.target.Target.{Target}

-- ---- all lines

-- a refusal of this line
abbrev pub at_line : {A : Type 0} → ℕ → Result A Fault → Result A SettingsError
at_line number (Ok x) = Ok x
at_line number (Err fault) = Err (fault_at number fault)

-- what the line of this number sets, if anything
abbrev pub setting_at : ℕ → List ℕ → Result (Option Setting) SettingsError
setting_at number line = at_line number (setting_in_line line)

-- what the lines set, of which the first has this number; or the first that is bad
unfoldable pub settings_from : ℕ → List (List ℕ) → Result (List Setting) SettingsError
settings_from number [] = Ok []
settings_from number (line ∷ more) =
    result_and_then (λ setting.
    result_and_then (λ rest. Ok (option_to_list setting ++ rest)) (settings_from (number + 1) more))
    (setting_at number line)

-- ---- the last line for a key counts

abbrev pub last_given : {A : Type 0} → (Setting → Option A) → List Setting → Option A
last_given pick [] = None
last_given pick (setting ∷ more) = option_or (last_given pick more) (pick setting)

-- what a setting gives for a key that is set for all targets
abbrev pub targets_in : Setting → Option (List (List ℕ))
targets_in (sets.Targets names) = Some names
targets_in _ = None

abbrev pub prefix_in : Setting → Option (List ℕ)
prefix_in (sets.StatePrefix prefix) = Some prefix
prefix_in _ = None

abbrev pub attempts_in : Setting → Option ℕ
attempts_in (sets.DefaultAttempts n) = Some n
attempts_in _ = None

abbrev pub priority_in : Setting → Option ℕ
priority_in (sets.DefaultPriority n) = Some n
priority_in _ = None

abbrev pub reset_attempts_in : Setting → Option Events
reset_attempts_in (sets.ResetAttempts events) = Some events
reset_attempts_in _ = None

abbrev pub reset_priorities_in : Setting → Option Bool
reset_priorities_in (sets.ResetPriorities b) = Some b
reset_priorities_in _ = None

abbrev pub retry_in : Setting → Option Bool
retry_in (sets.Retry b) = Some b
retry_in _ = None

abbrev pub disable_in : Setting → Option Bool
disable_in (sets.DisableOnZeroAttempts b) = Some b
disable_in _ = None

-- of these the last for a target's name
abbrev pub boot_of : List ℕ → Setting → Option (List ℕ)
boot_of name (sets.BootOf target file) = if bytes_eq target name then Some file else None
boot_of name _ = None

abbrev pub attempts_of : List ℕ → Setting → Option ℕ
attempts_of name (sets.AttemptsOf target n) = if bytes_eq target name then Some n else None
attempts_of name _ = None

abbrev pub priority_of : List ℕ → Setting → Option ℕ
priority_of name (sets.PriorityOf target n) = if bytes_eq target name then Some n else None
priority_of name _ = None

-- what is given for each key
pub record Given : Type 0 where
  pub targets : Option (List (List ℕ))
  pub prefix : Option (List ℕ)
  pub attempts : Option ℕ
  pub priority : Option ℕ
  pub reset_attempts : Option Events
  pub reset_priorities : Option Bool
  pub retry : Option Bool
  pub disable : Option Bool
  pub boot : List ℕ → Option (List ℕ)
  pub attempts_of : List ℕ → Option ℕ
  pub priority_of : List ℕ → Option ℕ

-- by all settings
abbrev pub given_by : List Setting → Given
given_by settings = record {
  targets = last_given targets_in settings;
  prefix = last_given prefix_in settings;
  attempts = last_given attempts_in settings;
  priority = last_given priority_in settings;
  reset_attempts = last_given reset_attempts_in settings;
  reset_priorities = last_given reset_priorities_in settings;
  retry = last_given retry_in settings;
  disable = last_given disable_in settings;
  boot = λ name. last_given (boot_of name) settings;
  attempts_of = λ name. last_given (attempts_of name) settings;
  priority_of = λ name. last_given (priority_of name) settings;
}

-- ---- what they say

-- the names of targets differ
abbrev pub TargetsDiffer : List Target → Type 0
TargetsDiffer targets = NamesDiffer (map (λ t. t.name) targets)

-- targets in their order, the prefix of their variables, and when what is reset
pub record Configuration : Type 0 where
  pub targets : List Target
  pub prefix : List ℕ
  pub rules : Rules

-- the entry file of a target for which none is set
abbrev pub default_entry : List ℕ → List ℕ
default_entry name = codes "loader/entries/" ++ name ++ codes ".conf"

-- a target, with what is set for it, or for all targets, or by default
abbrev pub target_of : Given → List ℕ → Target
target_of given name = record {
  name = name;
  entry = unwrap_or (given.boot name) (default_entry name);
  default_attempts = unwrap_or (given.attempts_of name) (unwrap_or given.attempts 3);
  default_priority = unwrap_or (given.priority_of name) (unwrap_or given.priority 1);
}

abbrev pub targets_given : Given → List Target
targets_given given = map (target_of given) (unwrap_or given.targets [])

abbrev pub no_events : Events
no_events = record { power_on = false; reset = false; all_zero = false }

abbrev pub rules_of : Given → Rules
rules_of given = record {
  reset_attempts = unwrap_or given.reset_attempts no_events;
  reset_priorities = unwrap_or given.reset_priorities false;
  retry = unwrap_or given.retry false;
  disable_on_zero_attempts = unwrap_or given.disable false;
}

abbrev pub prefix_of : Given → List ℕ
prefix_of given = unwrap_or given.prefix (codes "state.bootstate")

-- all of it, or that no target is named
abbrev pub configuration_of : Given → Result Configuration SettingsError
configuration_of given =
    if length (targets_given given) == 0 then Err NoTargets
    else Ok (record {
      targets = targets_given given;
      prefix = prefix_of given;
      rules = rules_of given;
    })

-- what a text of settings says, or its first refusal
abbrev pub settings_of : List ℕ → Result Configuration SettingsError
settings_of text =
    result_and_then
    (λ settings. configuration_of (given_by settings))
    (settings_from 1 (lines text))
