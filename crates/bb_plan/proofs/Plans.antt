-- Of which words and files a session's plan comes, and with which refusals it can't.
use Rattle.std.proofs.Common.{◌≡◌, ◌≢◌, ◌⊎◌, ◌&&◌, ℕ, Bool, true, false, not, List, [], Some, Result, Ok, Err, IsErr, IfErr, refl, sym, ap, subst, ◌∙◌, inl, inr}
use Rattle.bb_base.specs.Folder.{FileMap, Folder}
use Rattle.bb_base.specs.declared.files.FileFail.{FileFail}
use Rattle.bb_base.specs.declared.files.FileFail.TheVariants as file_fails
use Rattle.bb_flash.specs.declared.geometry.Geometry.{Geometry}
use Rattle.bb_layout.specs.Layout.{Laid}
use Rattle.bb_layout.specs.Results.{result_and_then}
use Rattle.bb_layout.specs.Thirds.{raw_layout}
use Rattle.bb_words.specs.Words.{words_of}
use Rattle.bb_words.specs.declared.command.Command.{Command}
use Rattle.bb_words.specs.declared.command.Command.TheVariants as commands
use Rattle.bb_words.specs.declared.command.RawCommand.{RawCommand}
use Rattle.bb_plan.specs.Plan.{IsRefusedWith}
use Rattle.bb_plan.specs.Status.{is_planning}
use Rattle.bb_plan.specs.Plan.{Compared, EarlyEnd, FileAnswers, OnCopies, Refused, SessionPlan, Task, command_reading, files_for, names_file, plan_by_words, plan_over_files, plan_reading, planned, raw_on, raw_task, words_reading}
use Rattle.bb_plan.specs.PlanSteps.{refused_as}
use Rattle.bb_plan.specs.FilesRead.{AreRead, after_file_fault, file_refusal, reading_of, reads_file, result_by, result_over}
use Rattle.bb_plan.specs.Refusal.{status_of}
use Rattle.bb_plan.specs.declared.plan.SlotImage.{SlotImage}
use Rattle.bb_plan.specs.declared.refusal.Refusal.{Refusal}
use Rattle.bb_plan.specs.declared.refusal.Refusal.TheVariants as refusals
use Rattle.bb_plan.specs.declared.status.Status.{Status}
use Rattle.bb_plan.specs.declared.status.Status.TheVariants as statuses
use Rattle.bb_plan.proofs.Readings.{HasErr, IsReadOver, by_over, ends_err, fault_met, one_end, same_over}
use Rattle.bb_plan.proofs.Sizes.{is_of_file, IsOfText, IsSizedTask, command_ends, is_of_text}

-- ---- refusals

-- a plan isn't refused with a status that none of its refusals has
unlike : (answer : Status) (task : Result Task Refusal) → IfErr task (λ refusal. status_of refusal ≢ answer) →
    IsRefusedWith answer (planned task) → ⊥
unlike answer (Err refusal) other refused = other refused
unlike answer (Ok (OnCopies plan)) other refused = refused
unlike answer _ other refused = refused

text_other : (answer : Status) → is_of_text answer ≡ false → (refusal : Refusal) → IsOfText refusal → status_of refusal ≢ answer
text_other answer other refusal text h =
    let e : true ≡ false = sym text ∙ ap is_of_text h ∙ other in cc

-- of a command, with the status of no text and no file
command_refusal : (answer : Status) → is_of_text answer ≡ false → ((name : List ℕ) (fail : FileFail) → status_of (file_refusal name fail) ≢ answer) →
    (command : Command) (geometry : Geometry) (files : FileAnswers) →
    IsRefusedWith answer (planned (result_by (command_reading command geometry) files)) → ⊥
command_refusal answer other fails command geometry files =
    unlike answer (result_by (command_reading command geometry) files)
    (ends_err IsSizedTask IsOfText (λ refusal. status_of refusal ≢ answer) (text_other answer other)
    fails (fails [] file_fails.NoMemory) (command_reading command geometry)
    (command_ends command geometry) files)

not_planning : (a b : Status) → is_planning a ≡ true → is_planning b ≡ false → a ≢ b
not_planning a b first second e = let h : true ≡ false = sym first ∙ ap is_planning e ∙ second in cc

-- a status that comes after a plan is no refusal of one
pub plan_refusal : (answer : Status) → is_planning answer ≡ false → answer ≢ statuses.NoMemory → (command : Result Command ℕ)
    (geometry : Geometry) (files : FileAnswers) → IsRefusedWith answer (planned (result_by (words_reading command geometry) files)) → ⊥
plan_refusal answer never other (Err place) geometry files refused =
    not_planning statuses.BadWords answer refl never refused
plan_refusal answer never other (Ok command) geometry files refused =
    command_refusal answer (ap (λ (planning : Bool). planning && not (is_of_file answer)) never) fails command geometry files refused
  where
    fails : (name : List ℕ) (fail : FileFail) → status_of (file_refusal name fail) ≢ answer
    fails name file_fails.Fault = not_planning statuses.FileFault answer refl never
    fails name file_fails.TooLong = not_planning statuses.FileTooLong answer refl never
    fails name file_fails.NoMemory = λ h. other (sym h)

-- only words that are none are refused as such
other_file : (name : List ℕ) (fail : FileFail) → status_of (file_refusal name fail) ≢ statuses.BadWords
other_file name file_fails.Fault = λ h. cc
other_file name _ = λ h. cc

pub words_refused : (command : Result Command ℕ) (geometry : Geometry) (files : FileAnswers) →
    IsRefusedWith statuses.BadWords (planned (result_by (words_reading command geometry) files)) → IsErr command
words_refused (Err place) geometry files refused = refl
words_refused (Ok command) geometry files refused =
    absurd (command_refusal statuses.BadWords refl other_file command geometry files refused)

-- ---- files that are told

-- a plan is that of the files as they are told, unless a fault was met or memory refused
abbrev pub IsPlanOf : Result SessionPlan EarlyEnd → Result SessionPlan EarlyEnd → Type 0
IsPlanOf plan told = (plan ≡ told) ⊎ (IsRefusedWith statuses.FileFault plan ⊎ (plan ≡ Err (Refused refusals.NoMemory)))

plan_is : (task told : Result Task Refusal) → IsReadOver task told → IsPlanOf (planned task) (planned told)
plan_is task told (inl same) = inl (ap planned same)
plan_is task told (inr (inl fault)) =
    inr (inl (subst (λ (t : Result Task Refusal). IsRefusedWith statuses.FileFault (planned t)) (sym fault.1) refl))
plan_is task told (inr (inr memory)) = inr (inr (ap planned memory))

pub same_plan : (words : List (List ℕ)) (geometry : Geometry) (folder folder' : Folder) (answers : FileAnswers) →
    AreRead (plan_reading words geometry) folder folder' answers → (files : FileMap) → folder.told ≡ Some files →
    IsPlanOf (plan_by_words words geometry answers) (plan_over_files words geometry files)
same_plan words geometry folder folder' answers are files told =
    plan_is (result_by (plan_reading words geometry) answers) (result_over files (plan_reading words geometry))
    (same_over (plan_reading words geometry) folder folder' answers are files told)

-- so it is for the answers of these files
pub plan_held : (words : List (List ℕ)) (geometry : Geometry) (files : FileMap) →
    plan_by_words words geometry (files_for words geometry files) ≡ plan_over_files words geometry files
plan_held words geometry files = ap planned (by_over (plan_reading words geometry) files)

-- where no file is named, the plan is the same whatever is answered of one
pub alone_plan : (words : List (List ℕ)) (geometry : Geometry) (answers : FileAnswers) (files : FileMap) →
    names_file words geometry ≡ false → plan_by_words words geometry answers ≡ plan_over_files words geometry files
alone_plan words geometry answers files none = ap planned (one_end (plan_reading words geometry) none answers files)

-- and no slot is compared with an image

raw_uncompared : (command : RawCommand) (geometry : Geometry) (answers : FileAnswers) (place : SlotImage) →
    planned (result_by (reading_of (raw_task command geometry)) answers) ≡ Err (Compared place) → ⊥
raw_uncompared command geometry answers place = by (refused_as refusals.BadLayout (raw_layout command.magic command.area_len geometry))
  where
    by : (layout : Result Laid Refusal) → planned (result_by (reading_of (result_and_then (raw_on command) layout)) answers) ≡ Err (Compared place) → ⊥
    by (Ok layout) is = cc
    by (Err refusal) is = cc

command_uncompared : (command : Command) (geometry : Geometry) (answers : FileAnswers) (place : SlotImage) →
    reads_file (command_reading command geometry) ≡ false → planned (result_by (command_reading command geometry) answers) ≡ Err (Compared place) → ⊥
command_uncompared (commands.Raw command) geometry answers place none is = raw_uncompared command geometry answers place is
command_uncompared (commands.Drill numbers) geometry answers place none is = cc
command_uncompared _ geometry answers place none is = let reads : true ≡ false = none in cc

words_uncompared : (command : Result Command ℕ) (geometry : Geometry) (answers : FileAnswers) (place : SlotImage) →
    reads_file (words_reading command geometry) ≡ false → planned (result_by (words_reading command geometry) answers) ≡ Err (Compared place) → ⊥
words_uncompared (Ok command) geometry answers place none is = command_uncompared command geometry answers place none is
words_uncompared (Err bad) geometry answers place none is = cc

pub alone_uncompared : (words : List (List ℕ)) (geometry : Geometry) (answers : FileAnswers) (place : SlotImage) →
    names_file words geometry ≡ false → plan_by_words words geometry answers ≡ Err (Compared place) → ⊥
alone_uncompared words geometry answers place none is = words_uncompared (words_of words) geometry answers place none is

-- ---- files that met a fault

abbrev AtFault : Refusal → Type 0
AtFault refusal = status_of refusal ≡ statuses.FileFault

as_fault : (task : Result Task Refusal) → IsRefusedWith statuses.FileFault (planned task) → HasErr AtFault task
as_fault (Ok (OnCopies plan)) refused = refused
as_fault _ refused = refused

fault_of : (command : Result Command ℕ) (geometry : Geometry) (before after : Folder) (answers : FileAnswers) →
    AreRead (words_reading command geometry) before after answers →
    HasErr AtFault (result_by (words_reading command geometry) answers) → after ≡ after_file_fault before
fault_of (Err place) geometry before after answers are refused = absurd cc
fault_of (Ok command) geometry before after answers are refused =
    fault_met IsSizedTask IsOfText AtFault (text_other statuses.FileFault refl) (λ name h. cc)
    (λ h. cc)
    before after (command_reading command geometry) (command_ends command geometry) answers are
    refused

-- one was counted
pub faulty_plan : (words : List (List ℕ)) (geometry : Geometry) (before after : Folder) (answers : FileAnswers) →
    AreRead (plan_reading words geometry) before after answers →
    IsRefusedWith statuses.FileFault (plan_by_words words geometry answers) → after ≡ after_file_fault before
faulty_plan words geometry before after answers are refused =
    fault_of (words_of words) geometry before after answers are (as_fault (result_by (plan_reading words geometry) answers) refused)
