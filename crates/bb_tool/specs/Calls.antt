-- What `run` says of each call: every clause of its contract is one of these facts, and none of
-- them names a command.
use Rattle.std.specs.Prelude.{◌≡◌, ◌⊎◌, ⊤, ℕ, Bool, true, false, List, Option, Some, None, Result, Ok, Err, IsErr, IsSome, option_map}
use Rattle.std.specs.Option.{ForSome}
use Rattle.bb_base.specs.Faults.{HasCause, Rose, one_more}
use Rattle.bb_base.specs.Folder.{FileMap}
use Rattle.bb_base.specs.SinkRecord.{SendsFront}
use Rattle.bb_flash.specs.Cuts.{IsLater}
use Rattle.bb_flash.specs.Device.{Device, content}
use Rattle.bb_flash.specs.Image.{Image}
use Rattle.bb_flash.specs.declared.geometry.Geometry.{Geometry}
use Rattle.bb_script_commands.specs.Playing.{ComeFirst}
use Rattle.bb_shell.specs.Counting.{target_started}
use Rattle.bb_words.specs.Words.{words_of}
use Rattle.bb_drill.specs.declared.counts.DrillCounts.{DrillCounts}
use Rattle.bb_tool.specs.Drilling.{IsDrilled}
use Rattle.bb_tool.specs.SessionAnswer.{AreAnswers}
use Rattle.bb_session.specs.Comparing.{CompareAnswer, IsFoundIn}
use Rattle.bb_session.specs.Exactly.{LeavesAll}
use Rattle.bb_plan.specs.Plan.{Compared, IsRefusedWith, EarlyEnd, SessionPlan, names_file, plan_by_words, plan_over_files}
use Rattle.bb_tool.specs.Ran.{Ran}
use Rattle.bb_plan.specs.FilesRead.{IsFolderLater, after_file_fault}
use Rattle.bb_tool.specs.Lines.{line_of}
use Rattle.bb_plan.specs.Refusal.{status_of}
use Rattle.bb_session.specs.Session.{Answers, Session, answers_of, barred_after, ended_status, granted_all, load_for, session_of}
use Rattle.bb_tool.specs.Sending.{sent_of}
use Rattle.bb_tool.specs.Sending.{IsSent, IsSentOrCut}
use Rattle.bb_session.specs.Work.{SendsByMemory}
use Rattle.bb_plan.specs.declared.refusal.Refusal.{Refusal}
use Rattle.bb_plan.specs.declared.refusal.Refusal.TheVariants as refusals
use Rattle.bb_plan.specs.declared.status.Status.{Status}
use Rattle.bb_plan.specs.declared.status.Status.TheVariants as statuses
use Rattle.bb_plan.specs.Status.{is_planning}

-- ---- a call and its session

abbrev pub geometry_of : Ran → Geometry
geometry_of ran = ran.before.device.geometry

-- files and device may have answered this
abbrev pub MayAnswer : Ran → Answers → Type 0
MayAnswer ran answers =
    AreAnswers ran.words ran.before.folder ran.after.folder
    ran.before.device ran.after.device answers

-- the session for these answers
abbrev pub session_for : Ran → Answers → Session
session_for ran answers = session_of ran.words (geometry_of ran) answers

-- the plan, where reading the files that the words name gave what these files hold
abbrev pub plan_over : Ran → FileMap → Result SessionPlan EarlyEnd
plan_over ran files = plan_over_files ran.words (geometry_of ran) files

-- the plan for what reading the files answered
abbrev pub session_plan_for : Ran → Answers → Result SessionPlan EarlyEnd
session_plan_for ran answers = plan_by_words ran.words (geometry_of ran) answers.files

-- the words name no file
abbrev pub NamesNoFile : Ran → Type 0
NamesNoFile ran = names_file ran.words (geometry_of ran) ≡ false

-- a text was sent, or a front of it, and the call ended so
abbrev pub SendsText : Ran → List ℕ → Status → Type 0
SendsText ran text ended = IsSentOrCut text ended ran.before.sink ran.after.sink ran.status

-- ---- the whole of a call

-- the call ends with the text and the status of a session
pub record IsAnswered (ran : Ran) : Type 0 where
  pub answers : Answers
  pub answered : MayAnswer ran answers
  pub told : SendsText ran (sent_of (session_for ran answers)) (ended_status (session_for ran answers))

-- memory was refused after all work on the device, for what was to be sent of it
pub record IsWithoutText (ran : Ran) : Type 0 where
  pub answers : Answers
  pub answered : MayAnswer ran answers
  pub whole : SendsByMemory (session_for ran answers).refusal

-- Memory was refused in the midst of the work, where a script asks for it between two commands. The
-- rounds that were run come first of those of the same session with memory.
pub record IsCutShort (ran : Ran) : Type 0 where
  pub answers : Answers
  pub answered : MayAnswer ran answers
  pub cut : (session_for ran answers).refusal ≡ Some refusals.NoMemory
  pub front :
      ComeFirst (session_for ran answers).rounds (session_for ran (granted_all answers)).rounds

-- memory was refused, before any call of the device, after all work on it or in its midst, and
-- only that one line was sent
pub record IsWithoutMemory (ran : Ran) : Type 0 where
  pub told : SendsText ran (line_of refusals.NoMemory) statuses.NoMemory
  pub work : (ran.after.device ≡ ran.before.device) ⊎ (IsWithoutText ran ⊎ IsCutShort ran)

abbrev pub IsSession : Ran → Type 0
IsSession ran = IsAnswered ran ⊎ IsWithoutMemory ran

-- ---- where nothing failed

-- no start failed that the session tried, or it starts nothing
abbrev pub FailsNoStart : Ran → Session → Type 0
FailsNoStart ran session =
    (target_started session.rounds ≡ None)
    ⊎ (Rose ran.before.device.start_faults ran.after.device.start_faults → ⊥)

-- unless the device, a start or the output failed, this session was sent whole
abbrev pub IsWhole : Ran → Session → Type 0
IsWhole ran session =
    (Rose ran.before.device.faults ran.after.device.faults → ⊥)
    → FailsNoStart ran session
    → (Rose ran.before.sink.faults ran.after.sink.faults → ⊥)
    → IsSent (sent_of session) (ended_status session) ran.before.sink ran.after.sink ran.status

-- what a comparison finds at a device with this content, where a plan makes one
abbrev pub IsFoundBy :
    Result SessionPlan EarlyEnd → Geometry → Image → CompareAnswer → Type 0
IsFoundBy (Err (Compared place)) geometry image answer =
    IsSome answer × IsFoundIn geometry.page place image answer
IsFoundBy _ geometry image answer = ⊤

-- Over these files and this content it is the session of both, and of what a comparison finds where
-- no call of the device failed.
pub record IsWholeAt (ran : Ran) (files : FileMap) (drill : Option DrillCounts) (image : Image)
    : Type 0 where
  pub compared : CompareAnswer
  pub found :
      (Rose ran.before.device.faults ran.after.device.faults → ⊥)
      → IsFoundBy (plan_over ran files) (geometry_of ran) image compared
  pub whole :
      IsWhole ran
      (session_for ran (answers_of ran.words (geometry_of ran) files image drill compared))

-- over these files it is the session of what they and the device hold, and of what a drill counted,
-- where their plan runs one
pub record IsWholeFor (ran : Ran) (files : FileMap) : Type 0 where
  pub drill : Option DrillCounts
  pub allowed : IsDrilled (plan_over ran files) drill
  pub whole : ForSome (content ran.before.device) (IsWholeAt ran files drill)

-- so it is unless memory was refused
abbrev pub IsWholeOver : Ran → FileMap → Type 0
IsWholeOver ran files = IsWholeFor ran files ⊎ (ran.status ≡ statuses.NoMemory)

-- so it is where files that are told didn't fail
abbrev pub IsUndisturbed : Ran → Type 0
IsUndisturbed ran =
    (Rose ran.before.folder.faults ran.after.folder.faults → ⊥)
    → ForSome ran.before.folder.told (IsWholeOver ran)

-- and where the words name no file, over any files
abbrev pub IsUndisturbedAlone : Ran → Type 0
IsUndisturbedAlone ran = NamesNoFile ran → (files : FileMap) → IsWholeOver ran files

-- ---- what stays

-- words that name no file read none
abbrev pub LeavesUnnamedFiles : Ran → Type 0
LeavesUnnamedFiles ran = NamesNoFile ran → ran.after.folder ≡ ran.before.folder

abbrev pub KeepsFiles : Ran → Type 0
KeepsFiles ran = IsFolderLater ran.before.folder ran.after.folder

abbrev pub KeepsHistory : Ran → Type 0
KeepsHistory ran = IsLater ran.before.device ran.after.device

-- such a refusal comes without any call of the device
abbrev pub AsksNothing : Ran → Type 0
AsksNothing ran = is_planning ran.status ≡ true → ran.after.device ≡ ran.before.device

-- over files that are told, a session whose plan has no work on copies leaves the device, whatever
-- its answer: it makes no call of it, or compares a slot, and then reads alone
abbrev pub LeavesBy : Result SessionPlan EarlyEnd → Device → Device → Type 0
LeavesBy (Ok plan) from to = ⊤
LeavesBy (Err end) from to = LeavesAll end from to

abbrev pub LeavesUnplanned : Ran → Type 0
LeavesUnplanned ran =
    ForSome ran.before.folder.told
    (λ files. LeavesBy (plan_over ran files) ran.before.device ran.after.device)

-- where the words name no file it makes no call of the device
abbrev pub LeavesUnplannedAlone : Ran → Type 0
LeavesUnplannedAlone ran =
    NamesNoFile ran → (files : FileMap) → IsErr (plan_over ran files)
    → ran.after.device ≡ ran.before.device

-- ---- counts of faults

-- the answer is one of the two that come before each other one: that of a failing output, or of
-- refused memory
abbrev pub ComesFirst : Ran → Type 0
ComesFirst ran = (ran.status ≡ statuses.SinkFault) ⊎ (ran.status ≡ statuses.NoMemory)

-- the output counted no fault, or one: then it cut the text, and the answer is one of these two
abbrev pub CountsSinkFaults : Ran → Type 0
CountsSinkFaults ran =
    (ran.after.sink.faults ≡ ran.before.sink.faults)
    ⊎ ((ran.after.sink.faults ≡ one_more ran.before.sink.faults) × ComesFirst ran)

-- the files counted no fault, or one: then the answer is FileFault, or one that comes before it
abbrev pub CountsFileFaults : Ran → Type 0
CountsFileFaults ran =
    (ran.after.folder ≡ ran.before.folder)
    ⊎ ((ran.after.folder ≡ after_file_fault ran.before.folder)
    × ((ran.status ≡ statuses.FileFault) ⊎ ComesFirst ran))

-- ---- each answer and its cause

-- the statuses that a fault of the files, the device or the output brings
abbrev pub is_fault_status : Status → Bool
is_fault_status statuses.FileFault = true
is_fault_status statuses.ReadFault = true
is_fault_status statuses.WriteFault = true
is_fault_status statuses.SlotFault = true
is_fault_status statuses.SinkFault = true
is_fault_status _ = false

-- an answer comes exactly where a fact holds; a failing output and refused memory come before it
pub record AnswersExactly (ran : Ran) (answer : Status) (fact : Type 0) : Type 0 where
  pub only : ran.status ≡ answer → fact
  pub always : fact → (ran.status ≡ answer) ⊎ ComesFirst ran

-- so does the answer to words that are no command
abbrev pub ComesByWords : Status → Ran → Type 0
ComesByWords answer ran = AnswersExactly ran answer (IsErr (words_of ran.words))

-- an answer comes exactly where the plan is so refused; a fault of the files comes before it too
pub record ComesPlanned (ran : Ran) (answer : Status) (plan : Result SessionPlan EarlyEnd) : Type 0 where
  pub only : ran.status ≡ answer → IsRefusedWith answer plan
  pub always : IsRefusedWith answer plan
      → (ran.status ≡ answer)
      ⊎ ((ran.status ≡ statuses.SinkFault)
      ⊎ ((ran.status ≡ statuses.NoMemory) ⊎ (ran.status ≡ statuses.FileFault)))

-- so it does over the files that are told
abbrev pub ComesByPlan : Status → Ran → Type 0
ComesByPlan answer ran =
    ForSome ran.before.folder.told (λ files. ComesPlanned ran answer (plan_over ran files))

-- and where the words name no file, over any files, whose faults then play no part
abbrev pub ComesByPlanAlone : Status → Ran → Type 0
ComesByPlanAlone answer ran =
    NamesNoFile ran → (files : FileMap)
    → AnswersExactly ran answer (IsRefusedWith answer (plan_over ran files))

-- An answer comes exactly where the table of a plan's copies at entry ends the session before any
-- save, with this refusal. Each fault comes before it.
pub record ComesBarred (ran : Ran) (answer : Status) (refusal : Option Refusal) : Type 0 where
  pub only : ran.status ≡ answer → option_map status_of refusal ≡ Some answer
  pub always : option_map status_of refusal ≡ Some answer
      → (ran.status ≡ answer)
      ⊎ ((ran.status ≡ statuses.NoMemory) ⊎ (is_fault_status ran.status ≡ true))

-- so it does over the files and a device that are told
abbrev pub ComesByTable : Status → Ran → Type 0
ComesByTable answer ran =
    ForSome ran.before.folder.told
    (λ files.
    ForSome (content ran.before.device)
    (λ image.
    let plan = plan_over ran files in
    ComesBarred ran answer (barred_after plan (load_for plan (geometry_of ran) image))))

-- an answer comes only where the files, or the output, counted one fault more
abbrev pub ComesByFiles : Status → Ran → Type 0
ComesByFiles answer ran =
    ran.status ≡ answer → ran.after.folder ≡ after_file_fault ran.before.folder

abbrev pub ComesBySink : Status → Ran → Type 0
ComesBySink answer ran =
    ran.status ≡ answer → ran.after.sink.faults ≡ one_more ran.before.sink.faults

-- an answer comes only where a count of the device rose: that of all its calls, or of its reads
abbrev pub ComesByDevice : Status → Ran → Type 0
ComesByDevice answer ran =
    HasCause ran.before.device.faults ran.after.device.faults (ran.status ≡ answer)

abbrev pub ComesByReads : Status → Ran → Type 0
ComesByReads answer ran =
    HasCause ran.before.device.read_faults ran.after.device.read_faults (ran.status ≡ answer)

-- some front of the text of a session was sent
pub record SendsSessionFront (ran : Ran) : Type 0 where
  pub answers : Answers
  pub answered : MayAnswer ran answers
  pub front : SendsFront (sent_of (session_for ran answers)) ran.before.sink ran.after.sink

-- where the output failed, that is what was sent
abbrev pub CutsTheText : Ran → Type 0
CutsTheText ran = ran.status ≡ statuses.SinkFault → SendsSessionFront ran

-- where memory was refused, nothing else is sent, and the work on the device wasn't begun, was
-- done, or was cut short between two commands of a script
abbrev pub WantsMemory : Ran → Type 0
WantsMemory ran = ran.status ≡ statuses.NoMemory → IsWithoutMemory ran
