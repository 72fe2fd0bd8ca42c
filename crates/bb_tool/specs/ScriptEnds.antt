-- What `run` says of the end of a script, by its play for what was answered. None of these facts
-- names a command.
use Rattle.std.specs.Prelude.{◌≡◌, ◌≢◌, ◌⊎◌, ℕ, ⊤, Some, IsSomeAnd}
use Rattle.bb_interpreter.specs.declared.run.ScriptEnd.{ScriptEnd}
use Rattle.bb_interpreter.specs.declared.run.ScriptEnd.TheVariants as ends
use Rattle.bb_plan.specs.declared.refusal.Refusal.TheVariants as refusals
use Rattle.bb_plan.specs.declared.status.Status.{Status}
use Rattle.bb_plan.specs.declared.status.Status.TheVariants as statuses
use Rattle.bb_session.specs.Session.{Answers, script_end}
use Rattle.bb_tool.specs.Calls.{ComesFirst, MayAnswer, SendsText, session_for, session_plan_for}
use Rattle.bb_tool.specs.Ran.{Ran}
use Rattle.bb_tool.specs.Sending.{sent_of}

-- it ends with the last command's status, which isn't 0
abbrev pub IsFailedEnd : ScriptEnd → Type 0
IsFailedEnd (ends.Done status) = status ≢ 0
IsFailedEnd _ = ⊥

-- it would run one command more than it may
abbrev pub IsLimitedEnd : ScriptEnd → Type 0
IsLimitedEnd ends.StepLimit = ⊤
IsLimitedEnd _ = ⊥

-- for these answers a script is run, and ends so
abbrev pub EndsSo : Ran → (ScriptEnd → Type 0) → Answers → Type 0
EndsSo ran Ends answers =
    IsSomeAnd (script_end (session_plan_for ran answers) answers.load answers.work) Ends

pub record EndedSo (ran : Ran) (Ends : ScriptEnd → Type 0) : Type 0 where
  pub answers : Answers
  pub answered : MayAnswer ran answers
  pub ended : EndsSo ran Ends answers

-- An answer comes only where a script ended so, for what files and device may have answered. It
-- comes where one ended so for whatever they may have: a failing output and refused memory alone
-- come before it.
pub record ComesByEnd (answer : Status) (Ends : ScriptEnd → Type 0) (ran : Ran) : Type 0 where
  pub only : ran.status ≡ answer → EndedSo ran Ends
  pub always : ((answers : Answers) → MayAnswer ran answers → EndsSo ran Ends answers)
      → (ran.status ≡ answer) ⊎ ComesFirst ran

-- the line shows the status of the last command
pub record ShowsAStatus (ran : Ran) : Type 0 where
  pub answers : Answers
  pub answered : MayAnswer ran answers
  pub status : ℕ
  pub refusal : (session_for ran answers).refusal ≡ Some (refusals.ScriptFailed status)
  pub ended : script_end (session_plan_for ran answers) answers.load answers.work
      ≡ Some (ends.Done status)
  pub told : SendsText ran (sent_of (session_for ran answers)) statuses.ScriptFailed

abbrev pub ShowsTheStatus : Ran → Type 0
ShowsTheStatus ran = ran.status ≡ statuses.ScriptFailed → ShowsAStatus ran
