-- Why a session was refused: its status, and how the steps of a session refuse it.
use Rattle.std.specs.Prelude.{Bool, ◌<◌, ⊤}
use Rattle.bb_actions.specs.declared.error.ActionError.{ActionError}
use Rattle.bb_actions.specs.declared.error.ActionError.TheVariants as action_errors
use Rattle.bb_chooser.specs.declared.settings_error.SettingsError.{SettingsError}
use Rattle.bb_chooser.specs.declared.settings_error.SettingsError.TheVariants as settings_errors
use Rattle.bb_dts.specs.declared.error.DtsError.{DtsError}
use Rattle.bb_dts.specs.declared.error.DtsError.TheVariants as tree_errors
use Rattle.bb_fdt.specs.declared.error.FdtError.{FdtError}
use Rattle.bb_fdt.specs.declared.error.FdtError.TheVariants as blob_errors
use Rattle.bb_layout.specs.declared.layout_error.LayoutError.{LayoutError}
use Rattle.bb_layout.specs.declared.layout_error.LayoutError.TheVariants as layout_errors
use Rattle.bb_copies.specs.declared.answers.CopyFault.{CopyFault}
use Rattle.bb_copies.specs.declared.answers.CopyFault.TheVariants as copy_faults
use Rattle.bb_script.specs.declared.error.ScriptError.{ScriptError}
use Rattle.bb_script.specs.declared.error.ScriptError.TheVariants as script_errors
use Rattle.bb_words.specs.declared.error.WordsError.{WordsError}
use Rattle.bb_words.specs.declared.error.WordsError.TheVariants as word_errors
use Rattle.bb_plan.specs.Status.{status_row}
use Rattle.bb_plan.specs.declared.refusal.Refusal.{Refusal}
use Rattle.bb_plan.specs.declared.refusal.Refusal.TheVariants as refusals
use Rattle.bb_plan.specs.declared.status.Status.{Status}
use Rattle.bb_plan.specs.declared.status.Status.TheVariants as statuses

abbrev pub status_of : Refusal → Status
status_of (refusals.BadWords place) = statuses.BadWords
status_of (refusals.BadTree e) = statuses.BadTree
status_of (refusals.BadBlob e) = statuses.BadTree
status_of (refusals.BadLayout e) = statuses.BadLayout
status_of (refusals.BadVariable name cause) = statuses.BadVariable
status_of (refusals.FileMissing file) = statuses.FileMissing
status_of (refusals.FileFault file) = statuses.FileFault
status_of (refusals.FileTooLong file) = statuses.FileTooLong
status_of refusals.ReadFault = statuses.ReadFault
status_of (refusals.WriteFault copy) = statuses.WriteFault
status_of refusals.NoTarget = statuses.NoTarget
status_of (refusals.StartFailed name) = statuses.StartFailed
status_of (refusals.BadSettings e) = statuses.BadSettings
status_of (refusals.BadScript e) = statuses.BadScript
status_of (refusals.ScriptFailed status) = statuses.ScriptFailed
status_of refusals.StepLimit = statuses.StepLimit
status_of (refusals.BadTarget name) = statuses.BadTarget
status_of (refusals.BadSlot e) = statuses.BadSlot
status_of (refusals.ImageTooLong len) = statuses.ImageTooLong
status_of (refusals.BadDigest digest) = statuses.BadDigest
status_of (refusals.LastTarget name) = statuses.LastTarget
status_of (refusals.SlotFault at) = statuses.SlotFault
status_of refusals.NoKey = statuses.BadKey
status_of (refusals.BadKey e) = statuses.BadKey
status_of (refusals.NoGood place) = statuses.NoGood
status_of refusals.NoMemory = statuses.NoMemory

-- the line of a refusal takes memory
abbrev pub takes_memory : Refusal → Bool
takes_memory refusal = (status_row (status_of refusal)).takes_memory

-- a copy that is named is one of the three
abbrev pub IsSendableRefusal : Refusal → Type 0
IsSendableRefusal (refusals.WriteFault copy) = copy < 3
IsSendableRefusal _ = ⊤

-- how a session is refused by what the steps refuse
abbrev pub words_refusal : WordsError → Refusal
words_refusal (word_errors.BadWord place) = refusals.BadWords place
words_refusal word_errors.NoMemory = refusals.NoMemory

abbrev pub action_refusal : ActionError → Refusal
action_refusal (action_errors.Misfit name cause) = refusals.BadVariable name cause
action_refusal action_errors.NoMemory = refusals.NoMemory

-- a session loads before it saves, so that no save is refused as Unsure
abbrev pub copy_refusal : CopyFault → Refusal
copy_refusal copy_faults.ReadFault = refusals.ReadFault
copy_refusal (copy_faults.WriteFault copy) = refusals.WriteFault copy
copy_refusal copy_faults.Unsure = refusals.ReadFault

-- refused memory while a file is read is the session's, and says nothing of what the file holds
abbrev pub tree_refusal : DtsError → Refusal
tree_refusal (tree_errors.NotText at) = refusals.BadTree (tree_errors.NotText at)
tree_refusal (tree_errors.BadToken at) = refusals.BadTree (tree_errors.BadToken at)
tree_refusal (tree_errors.Unexpected at) = refusals.BadTree (tree_errors.Unexpected at)
tree_refusal (tree_errors.NumberTooLarge at) = refusals.BadTree (tree_errors.NumberTooLarge at)
tree_refusal (tree_errors.LeftOut at) = refusals.BadTree (tree_errors.LeftOut at)
tree_refusal (tree_errors.TooDeep at) = refusals.BadTree (tree_errors.TooDeep at)
tree_refusal (tree_errors.DuplicateLabel at) = refusals.BadTree (tree_errors.DuplicateLabel at)
tree_refusal (tree_errors.DuplicatePhandle at) = refusals.BadTree (tree_errors.DuplicatePhandle at)
tree_refusal (tree_errors.NoSuchLabel at) = refusals.BadTree (tree_errors.NoSuchLabel at)
tree_refusal tree_errors.NoMemory = refusals.NoMemory

abbrev pub blob_refusal : FdtError → Refusal
blob_refusal blob_errors.NotBlob = refusals.BadBlob blob_errors.NotBlob
blob_refusal blob_errors.Version = refusals.BadBlob blob_errors.Version
blob_refusal (blob_errors.OutOfBounds field) = refusals.BadBlob (blob_errors.OutOfBounds field)
blob_refusal (blob_errors.BadToken at) = refusals.BadBlob (blob_errors.BadToken at)
blob_refusal (blob_errors.BadName at) = refusals.BadBlob (blob_errors.BadName at)
blob_refusal (blob_errors.TooDeep at) = refusals.BadBlob (blob_errors.TooDeep at)
blob_refusal blob_errors.NoMemory = refusals.NoMemory

abbrev pub layout_refusal : LayoutError → Refusal
layout_refusal layout_errors.NoState = refusals.BadLayout layout_errors.NoState
layout_refusal (layout_errors.Missing prop) = refusals.BadLayout (layout_errors.Missing prop)
layout_refusal (layout_errors.BadProp prop) = refusals.BadLayout (layout_errors.BadProp prop)
layout_refusal layout_errors.BadType = refusals.BadLayout layout_errors.BadType
layout_refusal layout_errors.BadReg = refusals.BadLayout layout_errors.BadReg
layout_refusal layout_errors.Overlap = refusals.BadLayout layout_errors.Overlap
layout_refusal layout_errors.NoBackend = refusals.BadLayout layout_errors.NoBackend
layout_refusal layout_errors.TooSmall = refusals.BadLayout layout_errors.TooSmall
layout_refusal layout_errors.Unaligned = refusals.BadLayout layout_errors.Unaligned
layout_refusal layout_errors.OutOfDevice = refusals.BadLayout layout_errors.OutOfDevice
layout_refusal layout_errors.AreaTooLong = refusals.BadLayout layout_errors.AreaTooLong
layout_refusal layout_errors.NameTwice = refusals.BadLayout layout_errors.NameTwice
layout_refusal layout_errors.NoMemory = refusals.NoMemory

abbrev pub settings_refusal : SettingsError → Refusal
settings_refusal (settings_errors.BadLine line) = refusals.BadSettings (settings_errors.BadLine line)
settings_refusal settings_errors.NoTargets = refusals.BadSettings settings_errors.NoTargets
settings_refusal (settings_errors.TargetTwice line) =
    refusals.BadSettings (settings_errors.TargetTwice line)
settings_refusal (settings_errors.BadNumber line) =
    refusals.BadSettings (settings_errors.BadNumber line)
settings_refusal (settings_errors.BadEvent line) = refusals.BadSettings (settings_errors.BadEvent line)
settings_refusal (settings_errors.NoSuchVariable name) =
    refusals.BadSettings (settings_errors.NoSuchVariable name)
settings_refusal (settings_errors.NotUint32 name) =
    refusals.BadSettings (settings_errors.NotUint32 name)
settings_refusal settings_errors.NoMemory = refusals.NoMemory

abbrev pub script_refusal : ScriptError → Refusal
script_refusal script_errors.TooLong = refusals.BadScript script_errors.TooLong
script_refusal script_errors.NotText = refusals.BadScript script_errors.NotText
script_refusal (script_errors.Unclosed at) = refusals.BadScript (script_errors.Unclosed at)
script_refusal (script_errors.Unexpected at) = refusals.BadScript (script_errors.Unexpected at)
script_refusal (script_errors.TooDeep at) = refusals.BadScript (script_errors.TooDeep at)
script_refusal script_errors.NoMemory = refusals.NoMemory
