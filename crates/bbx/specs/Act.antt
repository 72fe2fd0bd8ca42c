-- What the program does between its words and its exit: one session, or the text that comes in its
-- place.
use Rattle.std.specs.Prelude.{◌≡◌, List, ℕ, Result, Ok, Err, codes}
use Rattle.bb_base.specs.Folder.{Folder}
use Rattle.bb_base.specs.SinkRecord.{SinkRecord}
use Rattle.bb_tool.specs.Clauses.{EndsEarly, KeepsTheCopies, KnowsItsCauses, LeavesTheRest}
use Rattle.bb_tool.specs.Clauses.{SendsTheSession, StartsTheBest, WorksUndisturbed}
use Rattle.bb_tool.specs.Ran.{Ran}
use Rattle.bb_tool.specs.Lines.{fault_text}
use Rattle.bb_tool.specs.Sending.{IsSentOrCut}
use Rattle.bb_plan.specs.declared.status.Status.{Status}
use Rattle.bb_plan.specs.declared.status.Status.TheVariants as statuses
use Rattle.bbx.specs.declared.early.Early.{Early}
use Rattle.bbx.specs.declared.early.Early.TheVariants as earlies

-- the text that comes in place of a session, where usage and version are these texts
abbrev pub early_text : List ℕ → List ℕ → Early → List ℕ
early_text usage version earlies.Help = usage
early_text usage version earlies.Version = version
early_text usage version earlies.NoSession = fault_text statuses.BadWords (codes "BadWords 0")
early_text usage version (earlies.Refused refused) = fault_text statuses.ReadFault (codes "ReadFault")
early_text usage version earlies.NoMemory = fault_text statuses.NoMemory (codes "NoMemory")

-- the status with which the program ends where that text is sent whole
abbrev pub early_status : Early → Status
early_status earlies.Help = statuses.Done
early_status earlies.Version = statuses.Done
early_status earlies.NoSession = statuses.BadWords
early_status (earlies.Refused refused) = statuses.ReadFault
early_status earlies.NoMemory = statuses.NoMemory

-- one call of `run`, as all of its clauses know it
pub record IsOneSession (ran : Ran) : Type 0 where
  pub sent : SendsTheSession ran
  pub stays : LeavesTheRest ran
  pub copies : KeepsTheCopies ran
  pub undisturbed : WorksUndisturbed ran
  pub early : EndsEarly ran
  pub starts : StartsTheBest ran
  pub causes : KnowsItsCauses ran

-- no file is read, and this text is sent, or a front of it
pub record IsInPlace (text : List ℕ) (ended : Status) (before after : Folder) (out out' : SinkRecord) (status : Status)
    : Type 0 where
  pub files : after ≡ before
  pub told : IsSentOrCut text ended out out' status

-- what happens where a device was opened, and what where none was: a device stays open
abbrev pub ByOpening : {B : Type 0} → (B → B → Type 0) → (Early → Type 0) → Result B Early → Result B Early → Type 0
ByOpening session early (Ok board) (Ok board') = session board board'
ByOpening session early (Ok board) (Err e) = ⊥
ByOpening session early (Err e) after = early e
