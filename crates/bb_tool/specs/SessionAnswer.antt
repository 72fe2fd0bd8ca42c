-- What files and a device may have answered to a session, and what it gave before anything was
-- sent.
use Rattle.std.specs.Prelude.{◌≡◌, ◌⊎◌, ℕ, List, None, Result, Ok, Err, IfOk, IfErr}
use Rattle.bb_base.specs.Folder.{Folder}
use Rattle.bb_flash.specs.Device.{Device}
use Rattle.bb_plan.specs.Plan.{Compared, Compares, Drilled, Drills, EarlyEnd, OnCopies, Printed, Prints, Refused, SessionPlan, Task, plan_by_words, plan_reading}
use Rattle.bb_plan.specs.FilesRead.{AreRead}
use Rattle.bb_session.specs.Comparing.{CompareAnswer, IsSlotCompared, IsComparedAs}
use Rattle.bb_session.specs.Session.{Answers, session_of}
use Rattle.bb_session.specs.Work.{Gives, IsRefusedMemory, IsWork, IsWorkedOut, SendsByMemory}
use Rattle.bb_session.specs.declared.report.Report.{Report}
use Rattle.bb_tool.specs.Drilling.{IsDrillReport, IsDrilled}
use Rattle.bb_plan.specs.declared.refusal.Refusal.{Refusal}
use Rattle.bb_plan.specs.declared.refusal.Refusal.TheVariants as refusals

-- The task of a plan was done: its work on the device, or its comparison. Or a text or a drill was
-- reported, unless memory was refused for the drill, and no call of the device was made.
abbrev pub IsTaskDone : Task → Device → Device → Result Report Refusal → Type 0
IsTaskDone (OnCopies plan) from to given = IsWorkedOut plan.keyed plan.work from to given
IsTaskDone (Prints text) from to given =
    (given ≡ Ok (record { text = text; refusal = None })) × (to ≡ from)
IsTaskDone (Drills numbers) from to given =
    (IfOk given (IsDrillReport numbers) × IfErr given (λ refusal. refusal ≡ refusals.NoMemory))
    × (to ≡ from)
IsTaskDone (Compares place) from to given = IsComparedAs place from to given

-- a session without a work on copies makes no call of the device, but for a comparison
abbrev pub IsEnded : EarlyEnd → Device → Device → CompareAnswer → Type 0
IsEnded (Printed text) from to answer = to ≡ from
IsEnded (Drilled numbers) from to answer = to ≡ from
IsEnded (Compared place) from to answer = IsSlotCompared place from to answer
IsEnded (Refused refusal) from to answer = to ≡ from

-- the work of a plan was done, or its comparison
abbrev pub IsFollowed : Result SessionPlan EarlyEnd → Device → Device → Answers → Type 0
IsFollowed (Ok plan) before after answers = IsWork plan before after answers.load answers.work
IsFollowed (Err end) before after answers = IsEnded end before after answers.compared

-- these are what the files, the device and a drill answered
pub record AreAnswers (words : List (List ℕ)) (folder folder' : Folder) (before after : Device)
    (answers : Answers) : Type 0 where
  pub filed : AreRead (plan_reading words before.geometry) folder folder' answers.files
  pub followed : IsFollowed (plan_by_words words before.geometry answers.files) before after answers
  pub drilled : IsDrilled (plan_by_words words before.geometry answers.files) answers.drill

-- the session gave its text, or its refusal
pub record IsAnswer (words : List (List ℕ)) (folder folder' : Folder) (before after : Device)
    (given : Result Report Refusal) : Type 0 where
  pub answers : Answers
  pub answered : AreAnswers words folder folder' before after answers
  pub gives : Gives (session_of words before.geometry answers) given

-- all its work was done, and then memory was refused for what was to be sent
pub record IsWithoutText (words : List (List ℕ)) (folder folder' : Folder) (before after : Device)
    (given : Result Report Refusal) : Type 0 where
  pub answers : Answers
  pub answered : AreAnswers words folder folder' before after answers
  pub whole : SendsByMemory (session_of words before.geometry answers).refusal
  pub is : given ≡ Err refusals.NoMemory

-- before anything is sent: the answer of a session, or memory was refused
abbrev pub IsSessionAnswer :
    List (List ℕ) → Folder → Folder → Device → Device → Result Report Refusal → Type 0
IsSessionAnswer words folder folder' before after given =
    IsAnswer words folder folder' before after given
    ⊎ (IsWithoutText words folder folder' before after given ⊎ IsRefusedMemory before after given)
