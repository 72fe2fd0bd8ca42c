-- The one line that is sent of a refusal.
use Rattle.std.specs.Prelude.{List, [], ℕ, ◌+◌, ◌++◌, codes, decimal}
use Rattle.bb_chooser.specs.declared.settings_error.SettingsError.{SettingsError}
use Rattle.bb_chooser.specs.declared.settings_error.SettingsError.TheVariants as settings_errors
use Rattle.bb_dts.specs.declared.error.DtsError.{DtsError}
use Rattle.bb_dts.specs.declared.error.DtsError.TheVariants as tree_errors
use Rattle.bb_fdt.specs.declared.error.FdtError.{FdtError}
use Rattle.bb_fdt.specs.declared.error.FdtError.TheVariants as blob_errors
use Rattle.bb_fdt.specs.declared.error.Field.{Field}
use Rattle.bb_fdt.specs.declared.error.Field.TheVariants as fields
use Rattle.bb_hmac.specs.declared.error.KeyError.{KeyError}
use Rattle.bb_hmac.specs.declared.error.KeyError.TheVariants as key_errors
use Rattle.hex.specs.Hex.{encode_lower}
use Rattle.bb_install.specs.declared.slot_error.SlotError.{SlotError}
use Rattle.bb_install.specs.declared.slot_error.SlotError.TheVariants as slot_errors
use Rattle.bb_layout.specs.declared.layout_error.LayoutError.{LayoutError}
use Rattle.bb_layout.specs.declared.layout_error.LayoutError.TheVariants as layout_errors
use Rattle.bb_script.specs.declared.error.ScriptError.{ScriptError}
use Rattle.bb_script.specs.declared.error.ScriptError.TheVariants as script_errors
use Rattle.bb_vars.specs.declared.value_error.ValueError.{ValueError}
use Rattle.bb_vars.specs.declared.value_error.ValueError.TheVariants as value_errors
use Rattle.bb_state.specs.declared.error.StateError.{StateError}
use Rattle.bb_state.specs.declared.error.StateError.TheVariants as state_errors
use Rattle.bb_plan.specs.Status.{code_of, status_name}
use Rattle.bb_plan.specs.declared.refusal.Refusal.{Refusal}
use Rattle.bb_plan.specs.declared.refusal.Refusal.TheVariants as refusals
use Rattle.bb_plan.specs.declared.status.Status.{Status}
use Rattle.bb_plan.specs.Refusal.{status_of}

-- the words for a text that is no source: the refusal's name, and its offset
abbrev pub tree_words : DtsError → List ℕ
tree_words (tree_errors.NotText at) = codes "NotText " ++ decimal at
tree_words (tree_errors.BadToken at) = codes "BadToken " ++ decimal at
tree_words (tree_errors.Unexpected at) = codes "Unexpected " ++ decimal at
tree_words (tree_errors.NumberTooLarge at) = codes "NumberTooLarge " ++ decimal at
tree_words (tree_errors.LeftOut at) = codes "LeftOut " ++ decimal at
tree_words (tree_errors.TooDeep at) = codes "TooDeep " ++ decimal at
tree_words (tree_errors.DuplicateLabel at) = codes "DuplicateLabel " ++ decimal at
tree_words (tree_errors.DuplicatePhandle at) = codes "DuplicatePhandle " ++ decimal at
tree_words (tree_errors.NoSuchLabel at) = codes "NoSuchLabel " ++ decimal at
tree_words tree_errors.NoMemory = codes "NoMemory"

-- the words for bytes that are no blob: the refusal's name, and the field that is out of bounds, or
-- the token's offset
abbrev pub field_name : Field → List ℕ
field_name fields.Total = codes "Total"
field_name fields.Struct = codes "Struct"
field_name fields.Strings = codes "Strings"
field_name fields.Reserve = codes "Reserve"

abbrev pub blob_words : FdtError → List ℕ
blob_words blob_errors.NotBlob = codes "NotBlob"
blob_words blob_errors.Version = codes "Version"
blob_words (blob_errors.OutOfBounds field) = codes "OutOfBounds " ++ field_name field
blob_words (blob_errors.BadToken at) = codes "BadToken " ++ decimal at
blob_words (blob_errors.BadName at) = codes "BadName " ++ decimal at
blob_words (blob_errors.TooDeep at) = codes "TooDeep " ++ decimal at
blob_words blob_errors.NoMemory = codes "NoMemory"

-- the words for a tree that gives no layout: the refusal's name, and a property where it is one's
abbrev pub layout_words : LayoutError → List ℕ
layout_words layout_errors.NoState = codes "NoState"
layout_words (layout_errors.Missing prop) = codes "Missing " ++ prop
layout_words (layout_errors.BadProp prop) = codes "BadProp " ++ prop
layout_words layout_errors.BadType = codes "BadType"
layout_words layout_errors.BadReg = codes "BadReg"
layout_words layout_errors.Overlap = codes "Overlap"
layout_words layout_errors.NoBackend = codes "NoBackend"
layout_words layout_errors.TooSmall = codes "TooSmall"
layout_words layout_errors.Unaligned = codes "Unaligned"
layout_words layout_errors.OutOfDevice = codes "OutOfDevice"
layout_words layout_errors.AreaTooLong = codes "AreaTooLong"
layout_words layout_errors.NameTwice = codes "NameTwice"
layout_words layout_errors.NoMemory = codes "NoMemory"

-- the words for a variable that doesn't fit: why a text is no value of its kind, or that there is
-- none
abbrev pub value_words : ValueError → List ℕ
value_words value_errors.NotNumber = codes "NotNumber"
value_words value_errors.TooLarge = codes "TooLarge"
value_words value_errors.NoSuchName = codes "NoSuchName"
value_words value_errors.NotMac = codes "NotMac"
value_words value_errors.TooLong = codes "TooLong"
value_words value_errors.HasZeroByte = codes "HasZeroByte"

abbrev pub variable_words : StateError → List ℕ
variable_words state_errors.NoSuchVariable = codes "NoSuchVariable"
variable_words (state_errors.Value cause) = value_words cause
variable_words state_errors.NoMemory = codes "NoMemory"

-- the words for settings that are no good: the refusal's name, and the line, counted from 1, or the
-- variable
abbrev pub settings_words : SettingsError → List ℕ
settings_words (settings_errors.BadLine line) = codes "BadLine " ++ decimal line
settings_words settings_errors.NoTargets = codes "NoTargets"
settings_words (settings_errors.TargetTwice line) = codes "TargetTwice " ++ decimal line
settings_words (settings_errors.BadNumber line) = codes "BadNumber " ++ decimal line
settings_words (settings_errors.BadEvent line) = codes "BadEvent " ++ decimal line
settings_words (settings_errors.NoSuchVariable name) = codes "NoSuchVariable " ++ name
settings_words (settings_errors.NotUint32 name) = codes "NotUint32 " ++ name
settings_words settings_errors.NoMemory = codes "NoMemory"

-- the words for a text that is no script: the refusal's name, and its offset
abbrev pub script_words : ScriptError → List ℕ
script_words script_errors.TooLong = codes "TooLong"
script_words script_errors.NotText = codes "NotText"
script_words (script_errors.Unclosed at) = codes "Unclosed " ++ decimal at
script_words (script_errors.Unexpected at) = codes "Unexpected " ++ decimal at
script_words (script_errors.TooDeep at) = codes "TooDeep " ++ decimal at
script_words script_errors.NoMemory = codes "NoMemory"

-- the words for a text that is no key: nothing of what stands in it, nor where
abbrev pub key_words : KeyError → List ℕ
key_words key_errors.Empty = codes "Empty"
key_words (key_errors.BadHex place) = codes "BadHex"

-- the words for a device without a slot of a label
abbrev pub slot_words : SlotError → List ℕ
slot_words slot_errors.NoSlot = codes "NoSlot"
slot_words slot_errors.BadReg = codes "BadReg"
slot_words slot_errors.Unaligned = codes "Unaligned"
slot_words slot_errors.OutOfDevice = codes "OutOfDevice"
slot_words slot_errors.Overlap = codes "Overlap"

-- what the line says after the name of the status: words are counted from 1, copies from 0
abbrev pub spaced : List ℕ → List ℕ
spaced words = codes " " ++ words

abbrev pub detail_of : Refusal → List ℕ
detail_of (refusals.BadWords place) = spaced (decimal (place + 1))
detail_of (refusals.FileMissing file) = spaced file
detail_of (refusals.FileFault file) = spaced file
detail_of (refusals.FileTooLong file) = spaced file
detail_of (refusals.BadTree e) = spaced (tree_words e)
detail_of (refusals.BadBlob e) = spaced (blob_words e)
detail_of (refusals.BadLayout e) = spaced (layout_words e)
detail_of refusals.NoKey = spaced (codes "None")
detail_of (refusals.BadKey e) = spaced (key_words e)
detail_of (refusals.BadVariable name cause) = spaced (name ++ spaced (variable_words cause))
detail_of (refusals.BadSettings e) = spaced (settings_words e)
detail_of (refusals.BadScript e) = spaced (script_words e)
detail_of (refusals.ScriptFailed status) = spaced (decimal status)
detail_of refusals.StepLimit = []
detail_of (refusals.BadTarget name) = spaced name
detail_of (refusals.BadSlot e) = spaced (slot_words e)
detail_of (refusals.ImageTooLong len) = spaced (decimal len)
detail_of (refusals.BadDigest digest) = spaced (encode_lower digest)
detail_of (refusals.LastTarget name) = spaced name
detail_of (refusals.SlotFault at) = spaced (decimal at)
detail_of refusals.ReadFault = []
detail_of (refusals.WriteFault copy) = spaced (decimal copy)
detail_of refusals.NoTarget = []
detail_of (refusals.NoGood place) = spaced (decimal place)
detail_of (refusals.StartFailed name) = spaced name
detail_of refusals.NoMemory = []

-- the line of a fault: the number of its status, and what it is
abbrev pub fault_text : Status → List ℕ → List ℕ
fault_text status words =
    codes "fault " ++ decimal (code_of status) ++ codes " " ++ words ++ codes "\n"

-- the line of a refusal
abbrev pub line_of : Refusal → List ℕ
line_of refusal =
    fault_text (status_of refusal) (status_name (status_of refusal) ++ detail_of refusal)
