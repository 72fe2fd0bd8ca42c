-- What is asked of files, one after another, and what comes of it: a value, or a refusal. What is
-- asked next may hang on what the earlier ones hold.
use Rattle.std.specs.Prelude.{◌≡◌, ◌≢◌, ◌⊎◌, ℕ, Bool, true, false, List, [], ◌∷◌, Option, Result, Ok, Err, ok_or}
use Rattle.std.specs.Option.{ForSome}
use Rattle.bb_base.specs.Faults.{one_more}
use Rattle.bb_base.specs.Folder.{FileMap, Folder, file_of}
use Rattle.bb_base.specs.declared.files.FileFail.{FileFail}
use Rattle.bb_base.specs.declared.files.FileFail.TheVariants as file_fails
use Rattle.bb_menu.specs.Menu.{menu_answer}
use Rattle.bb_menu.specs.declared.fault.MenuFault.{MenuFault}
use Rattle.bb_menu.specs.declared.fault.MenuFault.TheVariants as menu_faults
use Rattle.bb_shell.specs.Plans.{entry_answer}
use Rattle.bb_plan.specs.declared.refusal.Refusal.{Refusal}
use Rattle.bb_plan.specs.declared.refusal.Refusal.TheVariants as refusals

-- what reading a file gave: its bytes, or that there is none of that name
abbrev pub FileAnswer : Type 0
FileAnswer = Result (Option (List ℕ)) FileFail

-- what is asked: the file of this name, that of the entry for which a target's setting stands, or
-- the text of this folder's menu
pub data Asked : Type 0 where
  AskedFile : List ℕ → Asked
  AskedEntry : List ℕ → Asked
  AskedMenu : List ℕ → Asked

-- the name by which a refusal knows it
abbrev pub asked_name : Asked → List ℕ
asked_name (AskedFile name) = name
asked_name (AskedEntry setting) = setting
asked_name (AskedMenu dir) = dir

-- what these files answer
abbrev pub files_answer : FileMap → Asked → FileAnswer
files_answer files (AskedFile name) = file_of files name
files_answer files (AskedEntry setting) = entry_answer files setting
files_answer files (AskedMenu dir) = menu_answer files dir

-- a reading that gives a value of type A, or a refusal
pub data Reading (A : Type 0) : Type 0 where
  -- nothing more is read, and this is the value
  Yields : A → Reading A
  -- nothing more is read, and this is the refusal
  Fails : Refusal → Reading A
  -- this file is read, and what it holds, if it is there, says how to go on. Where it can't be read
  -- that is the end, with the refusal that names it.
  Reads : Asked → (Option (List ℕ) → Reading A) → Reading A

-- a reading, and the one that its value leads to
abbrev pub and_then : {A B : Type 0} → (A → Reading B) → Reading A → Reading B
and_then next (Yields x) = next x
and_then next (Fails refusal) = Fails refusal
and_then next (Reads asked rest) = Reads asked (λ found. and_then next (rest found))

-- a step that reads no file
abbrev pub reading_of : {A : Type 0} → Result A Refusal → Reading A
reading_of (Ok x) = Yields x
reading_of (Err refusal) = Fails refusal

-- what has to be there: a file, or a folder with its menu
abbrev pub needed : Asked → Reading (List ℕ)
needed asked =
    Reads asked (λ found. reading_of (ok_or found (refusals.FileMissing (asked_name asked))))

abbrev pub file_reading : List ℕ → Reading (List ℕ)
file_reading name = needed (AskedFile name)

abbrev pub menu_reading : List ℕ → Reading (List ℕ)
menu_reading dir = needed (AskedMenu dir)

-- it begins with a file
abbrev pub reads_file : {A : Type 0} → Reading A → Bool
reads_file (Yields x) = false
reads_file (Fails refusal) = false
reads_file (Reads asked rest) = true

-- ---- what comes of it

-- of a file that can't be read
abbrev pub file_refusal : List ℕ → FileFail → Refusal
file_refusal name file_fails.Fault = refusals.FileFault name
file_refusal name file_fails.TooLong = refusals.FileTooLong name
file_refusal name file_fails.NoMemory = refusals.NoMemory

-- of a folder that isn't there, or whose menu can't be read
abbrev pub menu_refusal : List ℕ → MenuFault → Refusal
menu_refusal dir menu_faults.NoFolder = refusals.FileMissing dir
menu_refusal dir menu_faults.FileFault = refusals.FileFault dir
menu_refusal dir menu_faults.FileTooLong = refusals.FileTooLong dir
menu_refusal dir menu_faults.NoMemory = refusals.NoMemory

-- by what reading each file gave, in their order. Without an answer for the next one it is as if
-- memory was refused.
abbrev pub result_by : {A : Type 0} → Reading A → List FileAnswer → Result A Refusal
result_by (Yields x) answers = Ok x
result_by (Fails refusal) answers = Err refusal
result_by (Reads asked rest) [] = Err refusals.NoMemory
result_by (Reads asked rest) (Ok found ∷ answers) = result_by (rest found) answers
result_by (Reads asked rest) (Err fail ∷ answers) = Err (file_refusal (asked_name asked) fail)

-- after the answer for a file
abbrev pub result_on :
    {A : Type 0} → Asked → (Option (List ℕ) → Result A Refusal) → FileAnswer → Result A Refusal
result_on asked next (Ok found) = next found
result_on asked next (Err fail) = Err (file_refusal (asked_name asked) fail)

-- over these files
abbrev pub result_over : {A : Type 0} → FileMap → Reading A → Result A Refusal
result_over files (Yields x) = Ok x
result_over files (Fails refusal) = Err refusal
result_over files (Reads asked rest) =
    result_on asked (λ found. result_over files (rest found)) (files_answer files asked)

-- what reading these files gives, one after another, up to the first that can't be read
abbrev pub answers_on : (Option (List ℕ) → List FileAnswer) → FileAnswer → List FileAnswer
answers_on next (Ok found) = Ok found ∷ next found
answers_on next (Err fail) = Err fail ∷ []

abbrev pub answers_over : {A : Type 0} → FileMap → Reading A → List FileAnswer
answers_over files (Yields x) = []
answers_over files (Fails refusal) = []
answers_over files (Reads asked rest) =
    answers_on (λ found. answers_over files (rest found)) (files_answer files asked)

-- ---- what files answer

-- the same files after one more fault: it is counted, and nothing else changes
abbrev pub after_file_fault : Folder → Folder
after_file_fault folder = record { told = folder.told; faults = one_more folder.faults }

-- the files are as before, or met one fault
abbrev pub IsFolderLater : Folder → Folder → Type 0
IsFolderLater before after = (after ≡ before) ⊎ (after ≡ after_file_fault before)

-- This file couldn't be read. A fault is counted once, and a file that is told is too long only
-- where it is; no other answer than a fault changes the count.
abbrev pub IsUnreadable : Asked → Folder → Folder → FileFail → Type 0
IsUnreadable asked before after file_fails.Fault = after ≡ after_file_fault before
IsUnreadable asked before after file_fails.TooLong =
    ForSome before.told (λ files. files_answer files asked ≡ Err file_fails.TooLong)
    × (after ≡ before)
IsUnreadable asked before after file_fails.NoMemory = after ≡ before

-- From the one folder to the other this is what reading the files gave, in their order: of files
-- that are told what they hold, up to the first that couldn't be read. Nothing but a fault changes
-- the folder, and that raises its count by one.
abbrev pub AreRead : {A : Type 0} → Reading A → Folder → Folder → List FileAnswer → Type 0
AreRead (Yields x) before after answers = (answers ≡ []) × (after ≡ before)
AreRead (Fails refusal) before after answers = (answers ≡ []) × (after ≡ before)
AreRead (Reads asked rest) before after [] = ⊥
AreRead (Reads asked rest) before after (Ok found ∷ answers) =
    ForSome before.told (λ files. files_answer files asked ≡ Ok found)
    × AreRead (rest found) before after answers
AreRead (Reads asked rest) before after (Err fail ∷ answers) =
    (answers ≡ []) × IsUnreadable asked before after fail

-- ---- what a call gave

-- files were read, and this came of them
pub record IsRead {A : Type 0} (reading : Reading A) (before after : Folder)
    (given : Result A Refusal) : Type 0 where
  pub answers : List FileAnswer
  pub are : AreRead reading before after answers
  pub gives : result_by reading answers ≡ given

-- memory was refused on the way
pub record IsReadShort {A : Type 0} (reading : Reading A) (before after : Folder) : Type 0 where
  pub later : IsFolderLater before after
  pub unread : reads_file reading ≡ false → after ≡ before

-- a value as the definition has it
abbrev pub result_as : {A B : Type 0} → (A → B) → Result A Refusal → Result B Refusal
result_as view (Ok x) = Ok (view x)
result_as view (Err refusal) = Err refusal

-- a call read as this reading says, and gave what comes of it, unless memory was refused
abbrev pub IsReadAs :
    {A B : Type 0} → Reading B → (A → B) → Folder → Folder → Result A Refusal → Type 0
IsReadAs reading view before after given =
    IsRead reading before after (result_as view given)
    ⊎ ((given ≡ Err refusals.NoMemory) × IsReadShort reading before after)

-- a step gave what is expected of it, unless memory was refused
abbrev pub IsExpected : {A B : Type 0} → Result B Refusal → (A → B) → Result A Refusal → Type 0
IsExpected expected view (Ok x) = expected ≡ Ok (view x)
IsExpected expected view (Err e) = e ≢ refusals.NoMemory → expected ≡ Err e

-- ---- each way in which a reading may end

-- P holds of each value, and Q of each refusal, whatever the files hold
abbrev pub EachEnd : {A : Type 0} → (A → Type 0) → (Refusal → Type 0) → Reading A → Type 0
EachEnd P Q (Yields x) = P x
EachEnd P Q (Fails refusal) = Q refusal
EachEnd P Q (Reads asked rest) = (found : Option (List ℕ)) → EachEnd P Q (rest found)
