-- What settings bind to the variables of a layout: these are in the area, and no two of them share
-- a byte.
use Rattle.std.proofs.Common.{◌≡◌, ℕ, ◌+◌, ◌==◌, ◌≤◌, Bool, true, false, List, [], ◌∷◌, ◌++◌, length, map, not, Option, Some, None, Result, Ok, Err, IfOk, cond, refl, ap, ◌∙◌}
use Rattle.std.specs.Prelude.{⊤, drop, nat_eq, unwrap_or}
use Rattle.std.specs.List.{list_all, starts_with}
use Rattle.std.specs.Option.{option_map_or, option_or, option_to_list}
use Rattle.std.specs.Str.{bytes_eq, is_utf8}
use Rattle.std.specs.Str.Lines.{lines}
use Rattle.bb_chooser.specs.Binding.{IsBinding, bind_from, binding, bound_of, last_chosen_name, uint32_at}
use Rattle.bb_chooser.specs.Keys.{is_target_name, setting_key_of, target_key_of}
use Rattle.bb_chooser.specs.Lines.{assignment_of, front, general_setting_of, setting_in_line, named_setting_of, own_setting_of, pair_setting_of, sides_at, setting_of, sets_nothing, target_setting_of}
use Rattle.bb_chooser.specs.Settings.{Configuration, Given, at_line, configuration_of, given_by, last_given, prefix_of, rules_of, settings_from, settings_of, target_of, targets_in, targets_given}
use Rattle.bb_chooser.specs.Values.{all_zero_in, differing_names, events_in, file_value, flag_in, names_value, number_in, prefix_value, without_quotes, split_at_spaces}
use Rattle.bb_chooser.specs.declared.fault.Fault.{Fault}
use Rattle.bb_chooser.specs.declared.fault.Fault.TheVariants as fault
use Rattle.bb_chooser.specs.declared.key.Key.{Key}
use Rattle.bb_chooser.specs.declared.key.Key.TheVariants as general
use Rattle.bb_chooser.specs.declared.key.TargetKey.{TargetKey}
use Rattle.bb_chooser.specs.declared.key.TargetKey.TheVariants as own
use Rattle.bb_chooser.specs.declared.setting.Setting.{Setting}
use Rattle.bb_chooser.specs.declared.setting.Setting.TheVariants as sets
use Rattle.bb_chooser.specs.declared.settings_error.SettingsError.TheVariants.{NoTargets}
use Rattle.bb_chooser.specs.declared.target.Target.{Target}
use Rattle.bb_chooser.proofs.Bound.{binding_is}
use Rattle.bb_layout.specs.Facts.{AreVars}
use Rattle.bb_layout.specs.Layout.{Laid}
use Rattle.bb_layout.specs.Ranges.{some_pair}
use Rattle.bb_layout.specs.Results.{all_ok, result_and_then}
use Rattle.bb_chooser.proofs.Results.{either_ok, if_ok, made_ok, then_ok}

-- ---- the names of targets differ

abbrev Differ : List (List ℕ) → Type 0
Differ names = some_pair bytes_eq names ≡ false

abbrev DifferIn : Option (List (List ℕ)) → Type 0
DifferIn None = ⊤
DifferIn (Some names) = Differ names

abbrev IsFine : Setting → Type 0
IsFine setting = DifferIn (targets_in setting)

differing_fine : (words : List (List ℕ)) → IfOk (differing_names words) Differ
differing_fine words = by (some_pair bytes_eq words) refl
  where
    by : (twice : Bool) → some_pair bytes_eq words ≡ twice → IfOk (cond twice (Err fault.TargetTwice) (Ok words)) Differ
    by true e = tt
    by false e = e

names_fine : (value : List ℕ) → IfOk (names_value value) Differ
names_fine value =
    either_ok Differ (list_all is_target_name (split_at_spaces value)) (differing_names (split_at_spaces value)) (Err fault.BadLine)
    (differing_fine (split_at_spaces value)) tt

-- ---- in each setting

general_fine : (key : Key) (value : List ℕ) → IfOk (general_setting_of key value) IsFine
general_fine general.Targets value =
    then_ok IsFine (λ names. Ok (sets.Targets names)) (names_value value) (λ names is.
    if_ok Differ (names_value value) names is (names_fine value))
general_fine general.StatePrefix value =
    then_ok IsFine (λ prefix. Ok (sets.StatePrefix prefix)) (prefix_value value) (λ prefix is. tt)
general_fine general.DefaultAttempts value =
    then_ok IsFine (λ n. Ok (sets.DefaultAttempts n)) (number_in value) (λ n is. tt)
general_fine general.DefaultPriority value =
    then_ok IsFine (λ n. Ok (sets.DefaultPriority n)) (number_in value) (λ n is. tt)
general_fine general.ResetAttempts value =
    then_ok IsFine (λ events. Ok (sets.ResetAttempts events)) (events_in value) (λ events is. tt)
general_fine general.ResetPriorities value =
    then_ok IsFine (λ b. Ok (sets.ResetPriorities b)) (all_zero_in value) (λ b is. tt)
general_fine general.Retry value = then_ok IsFine (λ b. Ok (sets.Retry b)) (flag_in value) (λ b is. tt)
general_fine general.DisableOnZeroAttempts value =
    then_ok IsFine (λ b. Ok (sets.DisableOnZeroAttempts b)) (flag_in value) (λ b is. tt)

own_fine : (key : TargetKey) (name value : List ℕ) → IfOk (own_setting_of key name value) IsFine
own_fine own.Boot name value = then_ok IsFine (λ file. Ok (sets.BootOf name file)) (file_value value) (λ file is. tt)
own_fine own.DefaultAttempts name value =
    then_ok IsFine (λ n. Ok (sets.AttemptsOf name n)) (number_in value) (λ n is. tt)
own_fine own.DefaultPriority name value =
    then_ok IsFine (λ n. Ok (sets.PriorityOf name n)) (number_in value) (λ n is. tt)

named_fine : (named : List ℕ × List ℕ) (value : List ℕ) → IfOk (named_setting_of named value) IsFine
named_fine (name, rest) value =
    either_ok IsFine (is_target_name name)
    (option_map_or (λ k. own_setting_of k name value) (target_key_of rest) (Err fault.BadLine)) (Err fault.BadLine)
    (made_ok IsFine (λ k. own_setting_of k name value) (target_key_of rest) fault.BadLine (λ k. own_fine k name value)) tt

setting_fine : (key value : List ℕ) → IfOk (setting_of key value) IsFine
setting_fine key value = by (setting_key_of key)
  where
    by : (o : Option Key) → IfOk (option_map_or (λ k. general_setting_of k value) o (target_setting_of key value)) IsFine
    by None =
        made_ok IsFine (λ named. named_setting_of named value) (sides_at 46 key) fault.BadLine
        (λ named. named_fine named value)
    by (Some k) = general_fine k value

assignment_fine : (line : List ℕ) → IfOk (assignment_of line) IsFine
assignment_fine line =
    let text = drop (length front) line in
    either_ok IsFine (starts_with nat_eq line front) (pair_setting_of text) (Err fault.BadLine)
    (made_ok IsFine (λ (pair : List ℕ × List ℕ). setting_of pair.0 (without_quotes pair.1)) (sides_at 61 text) fault.BadLine
    (λ pair. setting_fine pair.0 (without_quotes pair.1))) tt

-- ---- in each line

abbrev IsFineIf : Option Setting → Type 0
IsFineIf None = ⊤
IsFineIf (Some setting) = IsFine setting

line_fine : (line : List ℕ) → IfOk (setting_in_line line) IsFineIf
line_fine line =
    let set = result_and_then (λ setting. Ok (Some setting)) (assignment_of line) in
    let said : Result (Option Setting) Fault = cond (sets_nothing line) (Ok None) set in
    either_ok IsFineIf (not (is_utf8 line)) (Err fault.BadLine) said tt
    (either_ok IsFineIf (sets_nothing line) (Ok None) set tt
    (then_ok IsFineIf (λ setting. Ok (Some setting)) (assignment_of line) (λ setting is.
    if_ok IsFine (assignment_of line) setting is (assignment_fine line))))

at_line_fine : {A : Type 0} (P : A → Type 0) (number : ℕ) (r : Result A Fault) → IfOk r P → IfOk (at_line number r) P
at_line_fine P number (Ok x) h = h
at_line_fine P number (Err e) h = tt

abbrev AreFine : List Setting → Type 0
AreFine [] = ⊤
AreFine (setting ∷ more) = IsFine setting × AreFine more

fine_behind : (setting : Option Setting) (rest : List Setting) → IsFineIf setting → AreFine rest →
    AreFine (option_to_list setting ++ rest)
fine_behind None rest h g = g
fine_behind (Some setting) rest h g = (h, g)

lines_fine : (number : ℕ) (text : List (List ℕ)) → IfOk (settings_from number text) AreFine
unfolding settings_from
lines_fine number [] = tt
lines_fine number (line ∷ more) =
    then_ok AreFine
    (λ setting. result_and_then (λ rest. Ok (option_to_list setting ++ rest)) (settings_from (number + 1) more))
    (at_line number (setting_in_line line)) (λ setting is.
    then_ok AreFine (λ rest. Ok (option_to_list setting ++ rest)) (settings_from (number + 1) more) (λ rest others.
    fine_behind setting rest
    (if_ok IsFineIf (at_line number (setting_in_line line)) setting is (at_line_fine IsFineIf number (setting_in_line line) (line_fine line)))
    (if_ok AreFine (settings_from (number + 1) more) rest others (lines_fine (number + 1) more))))

-- ---- in all settings

last_fine : (settings : List Setting) → AreFine settings → DifferIn (last_given targets_in settings)
last_fine [] h = tt
last_fine (setting ∷ more) h = by (last_given targets_in more) (last_fine more h.1)
  where
    by : (later : Option (List (List ℕ))) → DifferIn later → DifferIn (option_or later (targets_in setting))
    by None g = h.0
    by (Some names) g = g

names_back : (given : Given) (names : List (List ℕ)) → map (λ (t : Target). t.name) (map (target_of given) names) ≡ names
names_back given [] = refl
names_back given (name ∷ names) = ap (λ l. name ∷ l) (names_back given names)

abbrev HasNames : Configuration → Type 0
HasNames settings = Differ (map (λ t. t.name) settings.targets)

configured_fine : (given : Given) → DifferIn given.targets → IfOk (configuration_of given) HasNames
configured_fine given h =
    let names = unwrap_or given.targets [] in
    let settings : Configuration = record { targets = targets_given given; prefix = prefix_of given; rules = rules_of given } in
    either_ok HasNames (length (targets_given given) == 0) (Err NoTargets) (Ok settings) tt
    (ap (some_pair bytes_eq) (names_back given names) ∙ by given.targets h)
  where
    by : (o : Option (List (List ℕ))) → DifferIn o → Differ (unwrap_or o [])
    by None g = refl
    by (Some names) g = g

settings_fine : (text : List ℕ) → IfOk (settings_of text) HasNames
settings_fine text =
    then_ok HasNames (λ settings. configuration_of (given_by settings)) (settings_from 1 (lines text)) (λ settings is.
    configured_fine (given_by settings)
    (last_fine settings (if_ok AreFine (settings_from 1 (lines text)) settings is (lines_fine 1 (lines text)))))

-- ---- what is bound

pub bind_apart : (text : List ℕ) (settings : Configuration) (layout : Laid) → settings_of text ≡ Ok settings →
    AreVars layout.area_len layout.vars → layout.area_len ≤ 65535 →
    IfOk (bind_from settings layout.name layout.vars layout.area_len) IsBinding
bind_apart text settings layout read are short =
    let len = layout.area_len in
    let found = uint32_at layout.name layout.vars (last_chosen_name settings.prefix) in
    let bound = all_ok (map (bound_of layout.name layout.vars settings.prefix) settings.targets) in
    then_ok IsBinding (λ targets. result_and_then (λ place. Ok (binding targets settings.rules place len)) found) bound
    (λ targets has_targets.
    then_ok IsBinding (λ place. Ok (binding targets settings.rules place len)) found (λ place has_place.
    binding_is len layout.name layout.vars are settings.prefix settings.rules settings.targets targets place short
    (if_ok HasNames (settings_of text) settings read (settings_fine text)) has_targets has_place))
