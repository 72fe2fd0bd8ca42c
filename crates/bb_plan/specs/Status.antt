-- The ways in which a session ends: one table, in the order in which a session comes to them.
use Rattle.std.specs.Prelude.{ℕ, Bool, true, false, List, codes}
use Rattle.bb_plan.specs.declared.status.Status.{Status}
use Rattle.bb_plan.specs.declared.status.Status.TheVariants.{Done, BadWords, BadTree, BadLayout, BadVariable, FileMissing, FileFault, FileTooLong, ReadFault, WriteFault, NoTarget, StartFailed, BadSettings, BadScript, SinkFault, ScriptFailed, StepLimit, NoGood, BadKey, BadTarget, BadSlot, BadDigest, ImageTooLong, LastTarget, SlotFault, NoMemory}

pub record StatusRow : Type 0 where
  -- the exit status of the program
  pub code : ℕ
  -- the first word of its fault line
  pub name : List ℕ
  -- it comes before any call of the device
  pub is_early : Bool
  -- its line takes memory: it names something, or has the cause of a text
  pub takes_memory : Bool

abbrev pub early : ℕ → List ℕ → StatusRow
early code name = record { code = code; name = name; is_early = true; takes_memory = true }

abbrev pub late : ℕ → List ℕ → Bool → StatusRow
late code name takes = record { code = code; name = name; is_early = false; takes_memory = takes }

abbrev pub status_row : Status → StatusRow
-- of the words
status_row BadWords = early 1 (codes "BadWords")
-- of the files: devicetree, key, settings, script, entries, slot and image
status_row FileMissing = early 5 (codes "FileMissing")
status_row FileFault = early 6 (codes "FileFault")
status_row FileTooLong = early 7 (codes "FileTooLong")
status_row BadTree = early 2 (codes "BadTree")
status_row BadLayout = early 3 (codes "BadLayout")
status_row BadKey = early 17 (codes "BadKey")
status_row BadVariable = early 4 (codes "BadVariable")
status_row BadSettings = early 13 (codes "BadSettings")
status_row BadScript = early 12 (codes "BadScript")
status_row BadTarget = early 22 (codes "BadTarget")
status_row BadSlot = early 23 (codes "BadSlot")
status_row ImageTooLong = early 25 (codes "ImageTooLong")
status_row BadDigest = early 24 (codes "BadDigest")
-- of the device
status_row ReadFault = late 8 (codes "ReadFault") false
status_row WriteFault = late 9 (codes "WriteFault") false
-- of the table that was loaded
status_row NoTarget = late 10 (codes "NoTarget") false
status_row NoGood = late 18 (codes "NoGood") false
status_row LastTarget = late 26 (codes "LastTarget") true
-- of a slot
status_row SlotFault = late 27 (codes "SlotFault") false
-- of a start
status_row StartFailed = late 11 (codes "StartFailed") true
-- of a script
status_row ScriptFailed = late 15 (codes "ScriptFailed") false
status_row StepLimit = late 16 (codes "StepLimit") false
-- of memory, and of the output
status_row NoMemory = late 20 (codes "NoMemory") false
status_row SinkFault = late 14 (codes "SinkFault") false
status_row Done = late 0 (codes "Done") false

abbrev pub code_of : Status → ℕ
code_of status = (status_row status).code

abbrev pub status_name : Status → List ℕ
status_name status = (status_row status).name

-- a refusal with this status comes before the work on the device
abbrev pub is_planning : Status → Bool
is_planning status = (status_row status).is_early
