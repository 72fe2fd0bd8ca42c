-- Lines that are read one after the other.
use Rattle.std.proofs.Common.{◌≡◌, ◌∙◌, ◌==◌, ℕ, zero, suc, ◌+◌, ◌<◌, List, [], ◌∷◌, ◌++◌, Option, Result, Ok, Err, append_assoc, arith, drop, length, eqb, ltb, false, true, refl, sym, ap}
use Rattle.std.proofs.lemmas.Bool.{lt-ltb, ne_eqb}
use Rattle.std.proofs.lemmas.Bool.Decides.{nat_tests}
use Rattle.std.specs.List.{slice_split}
use Rattle.std.specs.Option.{option_to_list}
use Rattle.bb_layout.proofs.Texts.{ascii_is_text}
use Rattle.bb_layout.specs.Results.{result_and_then}
use Rattle.bb_chooser.proofs.Reading.{line_quiet}
use Rattle.bb_chooser.specs.Lines.{setting_in_line}
use Rattle.bb_chooser.specs.Reading.{IsGivenBy, line_in, settings_in_parts}
use Rattle.bb_chooser.specs.Settings.{Configuration, Given, at_line, configuration_of, given_by, settings_from, settings_of}
use Rattle.bb_chooser.specs.declared.setting.Setting.{Setting}
use Rattle.bb_chooser.specs.declared.settings_error.SettingsError.{SettingsError}

-- settings, and after them what more lines set
abbrev pub after : List Setting → Result (List Setting) SettingsError → Result (List Setting) SettingsError
after settings more = result_and_then (λ rest. Ok (settings ++ rest)) more

abbrev pub onto_line : Result (Option Setting) SettingsError → Result (List Setting) SettingsError → Result (List Setting) SettingsError
onto_line line more = result_and_then (λ setting. after (option_to_list setting) more) line

pub after_none : (r : Result (List Setting) SettingsError) → after [] r ≡ r
after_none (Ok l) = refl
after_none (Err e) = refl

pub after_after : (a b : List Setting) (r : Result (List Setting) SettingsError) → after a (after b r) ≡ after (a ++ b) r
after_after a b (Ok l) = ap Ok (sym (append_assoc a b l))
after_after a b (Err e) = refl

pub said_none : (n : ℕ) → settings_in_parts n [] ≡ Ok []
unfolding settings_from
said_none n = refl

-- the line at a place, and those after it
pub said_next : (parts : List (List ℕ)) (n i : ℕ) → i < length parts
    → settings_in_parts n (drop i parts) ≡ onto_line (at_line n (setting_in_line (line_in parts i))) (settings_in_parts (n + 1) (drop (suc i) parts))
unfolding settings_from
said_next [] n i inside = absurd (omega arith)
said_next ([] ∷ []) n zero inside = sym (ap (λ r. onto_line (at_line n r) (settings_in_parts (n + 1) [])) (line_quiet [] (ascii_is_text [] refl) refl))
said_next ((c ∷ cs) ∷ []) n zero inside = let some : eqb (suc (length cs)) 0 ≡ false = ne_eqb (suc (length cs)) 0 (λ e. omega arith) in rw some refl
said_next (x ∷ y ∷ more) n zero inside =
    let behind : ltb 1 (length (x ∷ y ∷ more)) ≡ true = lt-ltb 1 (length (x ∷ y ∷ more)) (omega arith) in
    rw behind refl
said_next (x ∷ xs) n (suc i) inside =
    let same : ltb (suc i + 1) (length (x ∷ xs)) ≡ ltb (i + 1) (length xs) = grind (arith, nat_tests) in
    rw same (said_next xs n i (omega arith))

-- what all parts of a text give is what its settings say
pub said_whole : (text : List ℕ) (parts : List (List ℕ)) (given : Given) → parts ≡ slice_split (λ c. c == 10) text
    → IsGivenBy given (settings_in_parts 1 parts) → settings_of text ≡ configuration_of given
said_whole text parts given split by =
    let say : Result (List Setting) SettingsError → Result Configuration SettingsError =
    result_and_then (λ settings. configuration_of (given_by settings)) in
    ap (λ l. say (settings_in_parts 1 l)) (sym split) ∙ ap say by.1 ∙ ap configuration_of (sym by.2)
