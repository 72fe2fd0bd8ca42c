-- One call of `run`, as its contract sees it.
use Rattle.std.specs.Prelude.{ℕ, List}
use Rattle.bb_base.specs.Folder.{Folder}
use Rattle.bb_base.specs.SinkRecord.{SinkRecord}
use Rattle.bb_flash.specs.Device.{Device}
use Rattle.bb_plan.specs.declared.status.Status.{Status}

-- what stands outside of a session at one moment
pub record World : Type 0 where
  pub folder : Folder
  pub device : Device
  pub sink : SinkRecord

-- the words of a session, the world before and after it, and the status with which it ended
pub record Ran : Type 0 where
  pub words : List (List ℕ)
  pub before : World
  pub after : World
  pub status : Status

-- a call by what the traits tell: of files, a board and an output before it and after it, in pairs
abbrev pub ran_by : {F B K : Type 0} → (F → Folder) → (B → Device) → (K → SinkRecord) → List (List ℕ)
    → F → F → B → B → K → K → Status → Ran
ran_by folder device sink words files files' board board' out out' status = record {
  words = words;
  before = record { folder = folder files; device = device board; sink = sink out };
  after = record { folder = folder files'; device = device board'; sink = sink out' };
  status = status;
}
