-- The values of settings (barebox User Manual, Bootchooser).
use Rattle.std.specs.Prelude.{◌≡◌, ℕ, ◌-◌, ◌==◌, Bool, false, true, not, ◌&&◌, ◌||◌, List, [], codes, drop, filter, length, nat_eq, take, Result, Ok, Err, if◌then◌else◌}
use Rattle.std.specs.List.{ends_with, list_all, list_any, slice_split, starts_with}
use Rattle.std.specs.Option.{ok_or}
use Rattle.std.specs.Result.{result_ok}
use Rattle.std.specs.Str.{bytes_eq}
use Rattle.bb_base.specs.Number.{number_of}
use Rattle.bb_layout.specs.Ranges.{some_pair}
use Rattle.bb_layout.specs.Results.{result_and_then}
use Rattle.bb_chooser.specs.Keys.{is_target_name}
use Rattle.bb_chooser.specs.declared.events.Events.{Events}
use Rattle.bb_chooser.specs.declared.fault.Fault.{Fault}
use Rattle.bb_chooser.specs.declared.fault.Fault.TheVariants.{BadLine, TargetTwice, BadNumber, BadEvent}

-- two `"` around a value don't belong to it
abbrev pub quote : List ℕ
quote = codes "\""

abbrev pub is_quoted : List ℕ → Bool
is_quoted value = starts_with nat_eq value quote && ends_with nat_eq (drop 1 value) quote

abbrev pub without_quotes : List ℕ → List ℕ
without_quotes value = if is_quoted value then take (length value - 2) (drop 1 value) else value

abbrev pub number_in : List ℕ → Result ℕ Fault
number_in value = ok_or (result_ok (number_of value)) BadNumber

-- a number that says no or yes
abbrev pub yes_or_no : ℕ → Result Bool Fault
yes_or_no n = if n == 0 then Ok false else if n == 1 then Ok true else Err BadNumber

abbrev pub flag_in : List ℕ → Result Bool Fault
flag_in value = result_and_then yes_or_no (number_in value)

-- what stands between spaces
abbrev pub split_at_spaces : List ℕ → List (List ℕ)
split_at_spaces value = filter (λ w. not (length w == 0)) (slice_split (λ c. c == 32) value)

-- no name is there twice
abbrev pub NamesDiffer : List (List ℕ) → Type 0
NamesDiffer names = some_pair bytes_eq names ≡ false

-- names of targets, each once
abbrev pub differing_names : List (List ℕ) → Result (List (List ℕ)) Fault
differing_names words = if some_pair bytes_eq words then Err TargetTwice else Ok words

abbrev pub names_by_texts : List (List ℕ) → Result (List (List ℕ)) Fault
names_by_texts words = if list_all is_target_name words then differing_names words else Err BadLine

abbrev pub names_value : List ℕ → Result (List (List ℕ)) Fault
names_value value = names_by_texts (split_at_spaces value)

-- the events that reset attempts
abbrev pub is_event : List ℕ → Bool
is_event word =
    bytes_eq word (codes "power-on")
    || bytes_eq word (codes "reset")
    || bytes_eq word (codes "all-zero")

abbrev pub has_word : List ℕ → List (List ℕ) → Bool
has_word name words = list_any (λ w. bytes_eq w name) words

abbrev pub events_of : List (List ℕ) → Result Events Fault
events_of words =
    if list_all is_event words
    then Ok (record {
      power_on = has_word (codes "power-on") words;
      reset = has_word (codes "reset") words;
      all_zero = has_word (codes "all-zero") words;
    })
    else Err BadEvent

abbrev pub events_in : List ℕ → Result Events Fault
events_in value = events_of (split_at_spaces value)

-- the one event that resets priorities, or none
abbrev pub all_zero_in : List ℕ → Result Bool Fault
all_zero_in value =
    if bytes_eq value [] then Ok false
    else if bytes_eq value (codes "all-zero") then Ok true
    else Err BadEvent

-- names joined by `.`, none of which is empty
abbrev pub has_parts : List ℕ → Bool
has_parts value = list_all (λ part. not (length part == 0)) (slice_split (λ c. c == 46) value)

abbrev pub prefix_value : List ℕ → Result (List ℕ) Fault
prefix_value value = if has_parts value then Ok value else Err BadLine

abbrev pub file_value : List ℕ → Result (List ℕ) Fault
file_value value = if length value == 0 then Err BadLine else Ok value
