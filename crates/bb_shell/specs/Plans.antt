-- The plans by which the targets of a chooser are started, from their entries' files.
use Rattle.std.specs.Prelude.{◌≡◌, ◌≢◌, ℕ, ◌+◌, ◌-◌, ◌<◌, ◌≤◌, ⊤, Bool, true, false, List, [], ◌∷◌, length, map, nat_eq, slice_get, take, Option, Some, None, Result, Ok, Err, IfOk, option_map, if◌then◌else◌}
use Rattle.std.specs.List.{AllZip, ends_with, enumerate_from}
use Rattle.std.specs.Option.{ForSome, option_and_then}
use Rattle.std.specs.Path.{slash}
use Rattle.std.specs.Result.{result_ok}
use Rattle.bb_base.specs.Folder.{FileMap, Folder, file_of}
use Rattle.bb_base.specs.declared.files.FileFail.{FileFail}
use Rattle.bb_base.specs.declared.files.FileFail.TheVariants as file_fails
use Rattle.bb_bls.specs.Entry.{entry_of}
use Rattle.bb_bls.specs.declared.entry.Entry.{Entry}
use Rattle.bb_chooser.specs.Binding.{Binding}
use Rattle.bb_flash.specs.declared.plan.Plan.{Plan}
use Rattle.bb_layout.specs.Results.{all_ok}
use Rattle.bb_menu.specs.Menu.{first_item, items_of_folder, path_in_folder}
use Rattle.bb_menu.specs.declared.fault.MenuFault.{MenuFault}
use Rattle.bb_menu.specs.declared.fault.MenuFault.TheVariants as menu_faults
use Rattle.bb_menu.specs.declared.item.MenuItem.{MenuItem}
use Rattle.bb_shell.specs.declared.plan_fault.PlanFault.{PlanFault}
use Rattle.bb_shell.specs.declared.plan_fault.PlanFault.TheVariants.{FileFault, FileTooLong, NoMemory}

-- ---- one target, counted from 0

-- a plan takes these of an entry, and the target's place, which counts from 1
abbrev pub plan_with : ℕ → Entry → Plan
plan_with target entry = record {
  place = target + 1;
  linux = entry.linux;
  initrds = entry.initrds;
  options = entry.options;
  devicetree = entry.devicetree;
}

-- the plan of a target by its entry's text: none where there is no text, or where that is no entry
abbrev pub plan_by : ℕ → Option (List ℕ) → Option Plan
plan_by target text =
    option_map (plan_with target) (option_and_then (λ bytes. result_ok (entry_of bytes)) text)

-- what reading an entry's file gave: its bytes, or that there is no such file
abbrev pub EntryAnswer : Type 0
EntryAnswer = Result (Option (List ℕ)) FileFail

-- the plan of a target by what reading its entry's file gave, or why there are no plans
abbrev pub start_plan_for : ℕ → EntryAnswer → Result (Option Plan) PlanFault
start_plan_for target (Ok text) = Ok (plan_by target text)
start_plan_for target (Err file_fails.Fault) = Err (FileFault target)
start_plan_for target (Err file_fails.TooLong) = Err (FileTooLong target)
start_plan_for target (Err file_fails.NoMemory) = Err NoMemory

-- ---- the file of an entry

-- the folder that a setting names, if it does: it ends in `/`, and the folder is what stands before
abbrev pub folder_named : List ℕ → Option (List ℕ)
folder_named setting =
    if ends_with nat_eq setting (slash ∷ []) then Some (take (length setting - 1) setting) else None

-- what reading the file of a folder's first entry gives, if the folder has an entry
abbrev pub first_file : FileMap → List ℕ → Option MenuItem → EntryAnswer
first_file files dir None = Ok None
first_file files dir (Some item) = file_of files (path_in_folder dir item.name)

-- that of a folder whose entries are these: none where there is no such folder
abbrev pub folder_by : FileMap → List ℕ → Result (List MenuItem) MenuFault → EntryAnswer
folder_by files dir (Ok items) = first_file files dir (first_item items)
folder_by files dir (Err menu_faults.NoFolder) = Ok None
folder_by files dir (Err menu_faults.FileFault) = Err file_fails.Fault
folder_by files dir (Err menu_faults.FileTooLong) = Err file_fails.TooLong
folder_by files dir (Err menu_faults.NoMemory) = Err file_fails.NoMemory

abbrev pub folder_answer : FileMap → List ℕ → EntryAnswer
folder_answer files dir = folder_by files dir (items_of_folder files dir)

-- what a target's setting gives: the file of this name, or of the first entry of a folder
abbrev pub answer_in : FileMap → List ℕ → Option (List ℕ) → EntryAnswer
answer_in files setting None = file_of files setting
answer_in files setting (Some dir) = folder_answer files dir

abbrev pub entry_answer : FileMap → List ℕ → EntryAnswer
entry_answer files setting = answer_in files setting (folder_named setting)

-- ---- all targets

-- the plans of the first targets by what reading their entries' files gave; the first that can't be
-- read decides
abbrev pub plans_by : List EntryAnswer → Result (List (Option Plan)) PlanFault
plans_by answers =
    all_ok (map (λ entry. start_plan_for entry.0 entry.1) (enumerate_from 0 answers))

-- the setting of each target: the name of its entry's file, or of a folder and a `/`
abbrev pub entries_of : Binding → List (List ℕ)
entries_of b = map (λ t. t.target.entry) b.targets

-- the plans of a chooser's targets over these files
abbrev pub plans_of : FileMap → Binding → Result (List (Option Plan)) PlanFault
plans_of files b = plans_by (map (entry_answer files) (entries_of b))

-- ---- what is answered

-- where the call met no fault and had memory, the answer is that of the files
abbrev pub IsAnswerOf : EntryAnswer → EntryAnswer → Type 0
IsAnswerOf (Ok text) file = file ≡ Ok text
IsAnswerOf (Err file_fails.TooLong) file = file ≡ Err file_fails.TooLong
IsAnswerOf (Err file_fails.Fault) file = ⊤
IsAnswerOf (Err file_fails.NoMemory) file = ⊤

-- these are what reading the first targets' entries gave, where the files are told
abbrev pub AreAnswersOf : Folder → Binding → List EntryAnswer → Type 0
AreAnswersOf folder b answers =
    ForSome folder.told
    (λ files.
    AllZip IsAnswerOf answers (take (length answers) (map (entry_answer files) (entries_of b))))

-- The plans, or the fault, come of what was read of the entries, told or not: of all of them where
-- there are plans. Memory may be refused all the same.
pub record IsPlanned
    (b : Binding) (before : Folder) (given : Result (List (Option Plan)) PlanFault) : Type 0 where
  pub answers : List EntryAnswer
  pub answered : AreAnswersOf before b answers
  pub most : length answers ≤ length b.targets
  pub whole : IfOk given (λ plans. length answers ≡ length b.targets)
  pub gives : given ≢ Err NoMemory → given ≡ plans_by answers

-- the answer says that a file met a fault
abbrev pub is_file_fault : {X : Type 0} → Result X PlanFault → Bool
is_file_fault (Ok plans) = false
is_file_fault (Err (FileFault target)) = true
is_file_fault (Err (FileTooLong target)) = false
is_file_fault (Err NoMemory) = false

-- a fault names a target
abbrev pub NamesTarget : Binding → PlanFault → Type 0
NamesTarget b (FileFault target) = target < length b.targets
NamesTarget b (FileTooLong target) = target < length b.targets
NamesTarget b NoMemory = ⊤

-- the plan of a target, or the fault, comes of what was read: what the files give, where they are
-- told
pub record IsPlanRead
    (target : ℕ) (over : FileMap → EntryAnswer) (before : Folder)
    (given : Result (Option Plan) PlanFault) : Type 0 where
  pub answer : EntryAnswer
  pub answered : ForSome before.told (λ files. IsAnswerOf answer (over files))
  pub gives : given ≢ Err NoMemory → given ≡ start_plan_for target answer

-- the same by the target's setting
pub record IsPlanOf
    (b : Binding) (target : ℕ) (before : Folder) (given : Result (Option Plan) PlanFault)
    : Type 0 where
  pub answer : EntryAnswer
  pub answered :
      ForSome before.told
      (λ files.
      ForSome (slice_get (entries_of b) target)
      (λ setting. IsAnswerOf answer (entry_answer files setting)))
  pub gives : given ≢ Err NoMemory → given ≡ start_plan_for target answer
