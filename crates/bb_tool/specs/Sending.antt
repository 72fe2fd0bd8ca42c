-- What an output was sent of a text, what it counted, and with which status the session ends.
use Rattle.std.specs.Option.{option_map_or}
use Rattle.std.specs.Prelude.{◌≡◌, ◌⊎◌, ℕ, ◌++◌, Bool, true, List, Option, Some, None, Result, Ok, Err, String, string_bytes}
use Rattle.std.specs.declared.alloc.AllocError.{AllocError}
use Rattle.std.specs.declared.alloc.Global.{Global}
use Rattle.bb_base.specs.Faults.{one_more}
use Rattle.bb_base.specs.SinkRecord.{SinkRecord, Sends, SendsFront}
use Rattle.bb_plan.specs.Refusal.{status_of}
use Rattle.bb_tool.specs.Lines.{line_of}
use Rattle.bb_plan.specs.declared.refusal.Refusal.{Refusal}
use Rattle.bb_session.specs.declared.report.Report.{Report}
use Rattle.bb_plan.specs.declared.refusal.Refusal.TheVariants as refusals
use Rattle.bb_plan.specs.declared.status.Status.{Status}
use Rattle.bb_plan.specs.declared.status.Status.TheVariants as statuses
use Rattle.bb_session.specs.Session.{Session}
use Rattle.bb_plan.specs.Refusal.{takes_memory}

-- the status where the output failed: 14, which yields to no other than that of refused memory, 20
abbrev pub status_unsent : Status → Status
status_unsent statuses.NoMemory = statuses.NoMemory
status_unsent other = statuses.SinkFault

-- this text was sent whole, without a fault, and the status is this
pub record IsSent (text : List ℕ) (ended : Status) (before after : SinkRecord) (status : Status) : Type 0 where
  pub status_is : status ≡ ended
  pub faults : after.faults ≡ before.faults
  pub sent : Sends text before after

-- the output failed once, after some front of the text
pub record IsTextCut (text : List ℕ) (ended : Status) (before after : SinkRecord) (status : Status) : Type 0 where
  pub status_is : status ≡ status_unsent ended
  pub faults : after.faults ≡ one_more before.faults
  pub front : SendsFront text before after

abbrev pub IsSentOrCut : List ℕ → Status → SinkRecord → SinkRecord → Status → Type 0
IsSentOrCut text ended before after status =
    IsSent text ended before after status ⊎ IsTextCut text ended before after status

abbrev pub IsSentMemory : SinkRecord → SinkRecord → Status → Type 0
IsSentMemory before after status =
    IsSentOrCut (line_of refusals.NoMemory) statuses.NoMemory before after status

-- a line that was made was sent, or the memory for it was refused
abbrev pub IsSentMade : Result (String Global) AllocError → Status → SinkRecord → SinkRecord → Status → Type 0
IsSentMade (Ok line) ended before after status =
    IsSentOrCut (string_bytes line) ended before after status
IsSentMade (Err e) ended before after status = IsSentMemory before after status

-- a text that is known was sent, or the memory for it was refused
abbrev pub IsSentOr : Bool → List ℕ → Status → SinkRecord → SinkRecord → Status → Type 0
IsSentOr needs text ended before after status =
    IsSentOrCut text ended before after status
    ⊎ ((needs ≡ true) × IsSentMemory before after status)

-- a text was sent, and after it the line of a refusal, if there is one
abbrev pub IsSentAfter : List ℕ → Option Refusal → SinkRecord → SinkRecord → Status → Type 0
IsSentAfter text None before after status = IsSentOrCut text statuses.Done before after status
IsSentAfter text (Some refusal) before after status =
    IsSentOr (takes_memory refusal) (text ++ line_of refusal) (status_of refusal) before after status

abbrev pub IsSentReport : Report → SinkRecord → SinkRecord → Status → Type 0
IsSentReport report before after status =
    IsSentAfter report.text report.refusal before after status

-- the line of a refusal was sent, or the memory for it was refused
abbrev pub IsSentRefusal : Refusal → SinkRecord → SinkRecord → Status → Type 0
IsSentRefusal refusal before after status =
    IsSentOrCut (line_of refusal) (status_of refusal) before after status
    ⊎ ((takes_memory refusal ≡ true) × IsSentMemory before after status)

-- all that is sent: the text, and the line of the refusal after it
abbrev pub sent_of : Session → List ℕ
sent_of session =
    option_map_or (λ refusal. session.text ++ line_of refusal) session.refusal session.text
