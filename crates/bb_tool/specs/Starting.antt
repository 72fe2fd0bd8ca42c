-- What `run` says of starts: at most one, of the best target, by its plan, after the save of the
-- attempt that it spends. None of these facts names a command.
use Rattle.std.specs.Prelude.{◌≡◌, ◌⊎◌, ℕ, ⊤, true, List, Option, Some, Ok, IsNone, option_and_then}
use Rattle.std.specs.Option.{ForSome}
use Rattle.bb_base.specs.Faults.{Rose}
use Rattle.bb_chooser.specs.Binding.{IsBinding}
use Rattle.bb_copies.specs.Chronicle.{Content, Turn}
use Rattle.bb_layout.specs.Convert.{convert}
use Rattle.bb_layout.specs.Layout.{Laid}
use Rattle.bb_state.specs.Shows.{EachShowsOrNothing}
use Rattle.bb_flash.specs.Device.{content, starts}
use Rattle.bb_flash.specs.declared.plan.Plan.{Plan as StartPlan}
use Rattle.bb_shell.specs.Boot.{last_round, plan_at, table_after}
use Rattle.bb_shell.specs.Counting.{IsBootTurn, ReadsOwn}
use Rattle.bb_shell.specs.Ends.{RaisedBy, StartsOnce, failed_starts}
use Rattle.bb_shell.specs.Sequence.{AddsLast, started_last}
use Rattle.bb_session.specs.Acting.{AreRoundsOf, acts_of, start_plans_of}
use Rattle.bb_tool.specs.Calls.{MayAnswer, SendsText, session_for}
use Rattle.bb_tool.specs.Copying.{EachWork}
use Rattle.bb_session.specs.Looking.{passed_in}
use Rattle.bb_plan.specs.Plan.{SessionPlan}
use Rattle.bb_plan.specs.declared.plan.Work.{Work}
use Rattle.bb_plan.specs.declared.plan.Work.TheVariants.{Boot, Run}
use Rattle.bb_tool.specs.Ran.{Ran}
use Rattle.bb_session.specs.Session.{Answers, loaded_area}
use Rattle.bb_tool.specs.Sending.{sent_of}
use Rattle.bb_session.specs.SessionTurns.{EachStanding, turn_of}
use Rattle.bb_plan.specs.declared.refusal.Refusal.TheVariants as refusals
use Rattle.bb_plan.specs.declared.status.Status.TheVariants as statuses

-- ---- rounds

-- P holds of the table that the load of a session gave
abbrev pub EachLoaded : Ran → (SessionPlan → Answers → List ℕ → Type 0) → Type 0
EachLoaded ran P =
    EachWork ran
    (λ plan answers.
    (found : Option (List ℕ)) → answers.load ≡ Ok found →
    P plan answers (loaded_area plan.keyed.layout found))

-- The rounds of a session are those that its work is to run. Those of a boot go by the rules: each
-- is of the best target in the table that it starts from, which loses one attempt.
abbrev pub RunsRounds : Ran → Type 0
RunsRounds ran =
    EachLoaded ran
    (λ plan answers table.
    AreRoundsOf (start_plans_of plan.work) (acts_of plan.keyed.layout plan.work table)
    (session_for ran answers).rounds)

-- A boot did what the law of starts takes for a boot: where its load answered Ok, the area at the
-- turn's place of the list shows the table that it gave, which has the area's length, and the turn
-- is that of the rounds that come of some answers. No other work is a boot: that law says nothing
-- of a script, which may set attempts as it likes.
abbrev pub IsTurnOf : Laid → Work → Content → Turn → Type 0
IsTurnOf layout (Boot targets cause plans) before turn =
    IsBootTurn targets cause plans (convert layout) before turn
IsTurnOf layout _ before turn = ⊤

-- and its targets are bound as that law takes them: their variables are in the area, and no two of
-- them share a byte
abbrev pub IsBoundWork : Work → Type 0
IsBoundWork (Boot targets cause plans) = IsBinding targets
IsBoundWork (Run script targets cause plans) = IsBinding targets
IsBoundWork _ = ⊤

-- and a table of their area's length is read as it is stored, as that law takes it too
abbrev pub BootReadsOwn : Laid → Work → Type 0
BootReadsOwn layout (Boot targets cause plans) = ReadsOwn targets (convert layout)
BootReadsOwn layout _ = ⊤

-- so are the targets of a session and its tables, and so is its turn, at each content that its
-- copies stood for at entry
pub record BootsByPlan (ran : Ran) (plan : SessionPlan) (answers : Answers) : Type 0 where
  pub binding : IsBoundWork plan.work
  pub own : BootReadsOwn plan.keyed.layout plan.work
  pub turns :
      EachStanding plan.keyed ran.before.device ran.after.device
      (λ first last before.
      IsTurnOf plan.keyed.layout plan.work before (turn_of plan answers.load answers.work before.marks))

abbrev pub BootsInTurn : Ran → Type 0
BootsInTurn ran = EachWork ran (BootsByPlan ran)

-- ---- starts

-- a start is made exactly where the last round made one, by the plan of its target, with what the
-- device holds at exit
abbrev pub StartsTheLast : Ran → Type 0
StartsTheLast ran =
    EachWork ran
    (λ plan answers.
    AddsLast (start_plans_of plan.work) (session_for ran answers).rounds ran.before.device
    ran.after.device)

-- whatever it answered, the session made no start, or one
abbrev pub StartsAtMostOne : Ran → Type 0
StartsAtMostOne ran =
    (starts ran.after.device ≡ starts ran.before.device)
    ⊎ ((plan : StartPlan) × StartsOnce ran.before.device ran.after.device plan)

-- where a start was made every copy passes an area that shows the table of its round, or nothing
abbrev pub StartsAfterSave : Ran → Type 0
StartsAfterSave ran =
    EachLoaded ran
    (λ plan answers table.
    started_last (session_for ran answers).rounds ≡ true →
    ForSome (content ran.after.device)
    (λ image.
    EachShowsOrNothing plan.keyed.layout (table_after table (session_for ran answers).rounds)
    (passed_in plan.keyed ran.before.device.geometry.page image)))

-- The count of failed starts rose by exactly the rounds whose start failed: their target has a
-- plan. A session without rounds leaves it. At its greatest value it stands still.
abbrev pub CountsFailedStarts : Ran → Type 0
CountsFailedStarts ran =
    EachWork ran
    (λ plan answers.
    RaisedBy (failed_starts (session_for ran answers).rounds) ran.before.device.start_faults
    ran.after.device.start_faults)

-- ---- a start that failed

-- the target of the last round has no plan
abbrev pub IsUnplanned : Work → Ran → Answers → Type 0
IsUnplanned work ran answers =
    IsNone
    (option_and_then (λ round. plan_at (start_plans_of work) round.target)
    (last_round (session_for ran answers).rounds))

-- a target is named as one that couldn't be started only where it has no plan, or a start failed
abbrev pub KnowsStartFaults : Ran → Type 0
KnowsStartFaults ran =
    EachWork ran
    (λ plan answers.
    (name : List ℕ) → (session_for ran answers).refusal ≡ Some (refusals.StartFailed name) →
    IsUnplanned plan.work ran answers
    ⊎ Rose ran.before.device.start_faults ran.after.device.start_faults)

-- the refusal names a target
pub record NamesATarget (ran : Ran) : Type 0 where
  pub answers : Answers
  pub answered : MayAnswer ran answers
  pub name : List ℕ
  pub refusal : (session_for ran answers).refusal ≡ Some (refusals.StartFailed name)
  pub told : SendsText ran (sent_of (session_for ran answers)) statuses.StartFailed

abbrev pub NamesTheTarget : Ran → Type 0
NamesTheTarget ran = ran.status ≡ statuses.StartFailed → NamesATarget ran
