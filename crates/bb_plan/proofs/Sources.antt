-- What reading a file gives, the steps over what it holds, and a layout with its key.
use Rattle.std.proofs.Common.{◌≡◌, ◌≢◌, ℕ, Bool, List, [], ◌∷◌, Option, None, Some, Result, Ok, Err, IsErrAnd, refl, sym, ap, ◌∙◌, inl, inr}
use Rattle.std.specs.Option.{ForSome}
use Rattle.std.specs.Result.{result_map_both}
use Rattle.bb_base.specs.Faults.{counted}
use Rattle.bb_base.specs.Folder.{Folder, is_fault}
use Rattle.bb_base.specs.declared.files.FileFail.{FileFail}
use Rattle.bb_base.specs.declared.files.FileFail.TheVariants as file_fails
use Rattle.bb_chooser.specs.Binding.{Binding}
use Rattle.bb_chooser.specs.declared.settings_error.SettingsError.{SettingsError}
use Rattle.bb_chooser.specs.declared.settings_error.SettingsError.TheVariants as settings_errors
use Rattle.bb_hmac.specs.Hmac.{key_block}
use Rattle.bb_hmac.specs.Key.{key_of}
use Rattle.bb_hmac.specs.declared.error.KeyError.{KeyError}
use Rattle.bb_layout.specs.Layout.{Laid}
use Rattle.bb_layout.specs.Results.{result_and_then}
use Rattle.bb_layout.specs.declared.layout_error.LayoutError.{LayoutError}
use Rattle.bb_layout.specs.declared.layout_error.LayoutError.TheVariants as layout_errors
use Rattle.bb_script.specs.Tree.{ScriptTree}
use Rattle.bb_script.specs.declared.error.ScriptError.{ScriptError}
use Rattle.bb_script.specs.declared.error.ScriptError.TheVariants as script_errors
use Rattle.bb_menu.specs.Menu.{is_menu_fault, menu_answer}
use Rattle.bb_menu.specs.declared.fault.MenuFault.{MenuFault}
use Rattle.bb_menu.specs.declared.fault.MenuFault.TheVariants as menu_faults
use Rattle.bb_plan.specs.PlanSteps.{block_by, refused_as}
use Rattle.bb_plan.specs.FilesRead.{Asked, AskedMenu, IsReadAs, IsUnreadable, Reading, Reads, asked_name, files_answer, file_refusal, menu_reading, menu_refusal, needed, after_file_fault}
use Rattle.bb_plan.specs.Refusal.{layout_refusal, script_refusal, settings_refusal}
use Rattle.bb_plan.specs.declared.refusal.Refusal.{Refusal}
use Rattle.bb_plan.specs.declared.refusal.Refusal.TheVariants as refusals
use Rattle.bb_plan.proofs.Readings.{counted_later, folder_is, refused_by}

-- ---- what is asked of files

module _ (asked : Asked) (before after : Folder) (told : after.told ≡ before.told) where
  abbrev AsBytes : Result (List ℕ) Refusal → Type 0
  AsBytes given = IsReadAs (needed asked) (λ (bytes : List ℕ). bytes) before after given

  -- memory was refused before it was read, or for its name
  pub file_short : (fails : Bool) → after.faults ≡ counted fails before.faults →
      (given : Result (List ℕ) Refusal) → IsErrAnd given (λ y. y ≡ refusals.NoMemory) →
      AsBytes given
  file_short fails counts given is =
      let later = counted_later before after told fails counts in
      inr (refused_by given is, record { later = later; unread = λ none. absurd cc })

  -- what it holds, or that it isn't there
  pub file_given : (bytes : List ℕ) → after.faults ≡ before.faults →
      ForSome before.told (λ files. files_answer files asked ≡ Ok (Some bytes)) → AsBytes (Ok bytes)
  file_given bytes calm held = inl (record {
    answers = Ok (Some bytes) ∷ [];
    are = (held, (refl, folder_is before after told calm));
    gives = refl;
  })

  pub file_missing : (refusal : Refusal) → refusal ≡ refusals.FileMissing (asked_name asked) →
      after.faults ≡ before.faults →
      ForSome before.told (λ files. files_answer files asked ≡ Ok None) → AsBytes (Err refusal)
  file_missing refusal is calm held = inl (record {
    answers = Ok None ∷ [];
    are = (held, (refl, folder_is before after told calm));
    gives = ap (λ r. Err r) (sym is);
  })

  -- that it couldn't be read
  abbrev IsCounted : FileFail → Type 0
  IsCounted fail = after.faults ≡ counted (is_fault (Err fail)) before.faults

  abbrev IsLongWhere : FileFail → Type 0
  IsLongWhere fail =
      fail ≡ file_fails.TooLong →
      ForSome before.told (λ files. files_answer files asked ≡ Err file_fails.TooLong)

  unread_so : (fail : FileFail) → IsCounted fail → IsLongWhere fail →
      IsUnreadable asked before after fail
  unread_so file_fails.Fault counts long = folder_is (after_file_fault before) after told counts
  unread_so file_fails.TooLong counts long = (long refl, folder_is before after told counts)
  unread_so file_fails.NoMemory counts long = folder_is before after told counts

  -- whatever would have been read then
  pub unread : {A B : Type 0} (rest : Option (List ℕ) → Reading B) (view : A → B)
      (refusal : Refusal) (fail : FileFail) → refusal ≡ file_refusal (asked_name asked) fail →
      IsCounted fail → IsLongWhere fail →
      IsReadAs (Reads asked rest) view before after (Err refusal)
  unread rest view refusal fail is counts long = inl (record {
    answers = Err fail ∷ [];
    are = (refl, unread_so fail counts long);
    gives = ap (λ r. Err r) (sym is);
  })

  pub file_unread : (refusal : Refusal) (fail : FileFail) →
      refusal ≡ file_refusal (asked_name asked) fail → IsCounted fail → IsLongWhere fail →
      AsBytes (Err refusal)
  file_unread refusal fail is counts long = unread _ (λ (b : List ℕ). b) refusal fail is counts long

-- the menu of a folder couldn't be read, or there is no such folder
abbrev pub given_menu : MenuFault → Result (List ℕ) MenuFault
given_menu fault = Err fault

pub menu_unread : (dir : List ℕ) (before after : Folder) (told : after.told ≡ before.told)
    (refusal : Refusal) (fault : MenuFault) → refusal ≡ menu_refusal dir fault →
    after.faults ≡ counted (is_menu_fault (given_menu fault)) before.faults →
    (given_menu fault ≡ Err menu_faults.NoFolder →
    ForSome before.told (λ files. menu_answer files dir ≡ Ok None)) →
    (given_menu fault ≡ Err menu_faults.FileTooLong →
    ForSome before.told (λ files. menu_answer files dir ≡ Err file_fails.TooLong)) →
    IsReadAs (menu_reading dir) (λ (text : List ℕ). text) before after (Err refusal)
menu_unread dir before after told refusal menu_faults.NoFolder is counts missing long =
    file_missing (AskedMenu dir) before after told refusal is counts (missing refl)
menu_unread dir before after told refusal menu_faults.FileFault is counts missing long =
    file_unread (AskedMenu dir) before after told refusal file_fails.Fault is counts
    (λ h. absurd cc)
menu_unread dir before after told refusal menu_faults.FileTooLong is counts missing long =
    file_unread (AskedMenu dir) before after told refusal file_fails.TooLong is counts
    (λ h. long refl)
menu_unread dir before after told refusal menu_faults.NoMemory is counts missing long =
    file_unread (AskedMenu dir) before after told refusal file_fails.NoMemory is counts
    (λ h. absurd cc)

-- ---- refusals by the names that they have in a session

pub layout_refused : (laid : Result Laid LayoutError) (e : LayoutError) →
    (e ≢ layout_errors.NoMemory → laid ≡ Err e) → layout_refusal e ≢ refusals.NoMemory →
    refused_as refusals.BadLayout laid ≡ Err (layout_refusal e)
layout_refused laid layout_errors.NoMemory refused some = absurd (some refl)
layout_refused laid _ refused some = ap (refused_as refusals.BadLayout) (refused (λ h. cc))

pub settings_refused : (bound : Result Binding SettingsError) (e : SettingsError) →
    (e ≢ settings_errors.NoMemory → bound ≡ Err e) → settings_refusal e ≢ refusals.NoMemory →
    refused_as refusals.BadSettings bound ≡ Err (settings_refusal e)
settings_refused bound settings_errors.NoMemory refused some = absurd (some refl)
settings_refused bound _ refused some = ap (refused_as refusals.BadSettings) (refused (λ h. cc))

pub script_refused : (read : Result ScriptTree ScriptError) (e : ScriptError) →
    (e ≢ script_errors.NoMemory → read ≡ Err e) → script_refusal e ≢ refusals.NoMemory →
    refused_as refusals.BadScript read ≡ Err (script_refusal e)
script_refused read script_errors.NoMemory refused some = absurd (some refl)
script_refused read _ refused some = ap (refused_as refusals.BadScript) (refused (λ h. cc))

-- ---- the key that a text spells

by_name : (r : Result (List ℕ) KeyError) →
    result_and_then (λ key. Ok (key_block key)) (refused_as refusals.BadKey r)
    ≡ refused_as refusals.BadKey (result_map_both key_block (λ e. e) r)
by_name (Ok key) = refl
by_name (Err e) = refl

pub block_is : (text : List ℕ) (given : Result (List ℕ) KeyError) →
    given ≡ result_map_both key_block (λ e. e) (key_of text) →
    block_by text ≡ refused_as refusals.BadKey given
block_is text given is = by_name (key_of text) ∙ ap (refused_as refusals.BadKey) (sym is)
