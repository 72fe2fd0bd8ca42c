-- An install: a target is disabled and that is saved, its slot is written, the target is enabled
-- and that is saved. Each step comes after the one before it answered Ok.
use Rattle.std.specs.Prelude.{◌≡◌, ◌⊎◌, ℕ, Bool, true, false, List, Option, Some, None, Result, Ok, Err, is_none}
use Rattle.bb_chooser.specs.Binding.{Binding}
use Rattle.bb_chooser.specs.Counting.{disable_of, enable_of}
use Rattle.bb_copies.specs.declared.answers.CopyFault.{CopyFault}
use Rattle.bb_flash.specs.Device.{Device}
use Rattle.bb_flash.specs.declared.region.Region.{Region}
use Rattle.bb_shell.specs.Rounds.{best_of}
use Rattle.bb_shell.specs.Running.{IsSaveRun}
use Rattle.bb_state.specs.Keyed.{Keyed}
use Rattle.bb_state.specs.State.{IsOn, is_sure, keyed_of, last_table_of, used_of}
use Rattle.bb_state.specs.declared.state.State.{State}
use Rattle.bb_install.specs.Slot.{HasPlace}
use Rattle.bb_install.specs.Writing.{IsInstalled, SlotCalls, StopsAt}
use Rattle.bb_install.specs.declared.install_end.InstallEnd.{InstallEnd}
use Rattle.bb_install.specs.declared.install_end.InstallEnd.TheVariants as ends

-- ---- the calls on the slot

-- all of them answered Ok, or the one that begins at this place failed
abbrev pub slot_result : Option ℕ → Result (Unit {0}) ℕ
slot_result None = Ok tt
slot_result (Some at) = Err at

abbrev pub IsWrittenBy : Region → List ℕ → Option ℕ → Device → Device → Type 0
IsWrittenBy slot image None from to = IsInstalled slot image from to
IsWrittenBy slot image (Some at) from to = StopsAt slot image at from to

-- the image was written to the slot, or a call failed
pub record IsImageWritten (slot : Region) (image : List ℕ) (stuck : Option ℕ) (from to : Device)
    : Type 0 where
  pub stands : HasPlace from.geometry slot
  pub wrote : IsWrittenBy slot image stuck from to
  pub calls : SlotCalls (slot_result stuck) slot from to

-- ---- one step

-- how an install goes on: not at all, where it ended
abbrev pub ended : {A : Type 0} → Result A InstallEnd → InstallEnd
ended (Ok done) = ends.Done
ended (Err end) = end

-- another target qualifies in a table in which the one that is written is disabled
abbrev pub IsOtherLeft : {A : Type 0} → Binding → List ℕ → Result A InstallEnd → Type 0
IsOtherLeft targets table (Ok done) = is_none (best_of targets table) ≡ false
IsOtherLeft targets table (Err end) = (is_none (best_of targets table) ≡ true) × (end ≡ ends.LastTarget)

-- what a save gives by why it was refused, if it was
abbrev pub fault_result : Option CopyFault → Result (Unit {0}) InstallEnd
fault_result None = Ok tt
fault_result (Some fault) = Err (ends.Fault fault)

-- a table was to be saved where `kept` was loaded or saved last
pub record IsSaveStep (keyed : Keyed) (used now : Option ℕ) (kept table : List ℕ) (from to : Device)
    (given : Result (Unit {0}) InstallEnd) : Type 0 where
  pub refusal : Option CopyFault
  pub run : IsSaveRun keyed (Some kept) used now table refusal from to
  pub gives : given ≡ fault_result refusal

-- what the calls on a slot give by where one failed, if one did
abbrev pub stuck_result : Option ℕ → Result (Unit {0}) InstallEnd
stuck_result None = Ok tt
stuck_result (Some at) = Err (ends.SlotFault at)

pub record IsSlotStep (slot : Region) (image : List ℕ) (from to : Device)
    (given : Result (Unit {0}) InstallEnd) : Type 0 where
  pub stuck : Option ℕ
  pub run : IsImageWritten slot image stuck from to
  pub gives : given ≡ stuck_result stuck

-- ---- the state that is left

-- what the copies pass isn't known after a save that was refused
abbrev pub is_sure_after : InstallEnd → Bool
is_sure_after ends.Done = true
is_sure_after ends.LastTarget = true
is_sure_after (ends.SlotFault at) = true
is_sure_after (ends.Fault fault) = false

-- what is left of a state, by how the steps ended
pub record IsStateLeft (first : Keyed) (last : List ℕ) (new : State) (to : Device) (end : InstallEnd)
    : Type 0 where
  -- it has the layout and the key that it had first
  pub keyed : keyed_of new ≡ first
  -- it has the table that was set last
  pub table : new.table ≡ last
  -- it may be used with the device
  pub on : IsOn new to
  -- it is sure exactly where no save was refused
  pub sure : is_sure new ≡ is_sure_after end
  -- where it is sure, that table is the one that was loaded or saved last
  pub kept : is_sure new ≡ true → last_table_of new ≡ new.table

-- ---- all steps

-- How it ends: the first save was refused for this, where it was. Then the call on the slot that
-- begins here failed, where one did. Then the second save was refused, where it was.
abbrev pub install_end_of : Option CopyFault → Option ℕ → Option CopyFault → InstallEnd
install_end_of (Some fault) stuck late = ends.Fault fault
install_end_of None (Some at) late = ends.SlotFault at
install_end_of None None (Some fault) = ends.Fault fault
install_end_of None None None = ends.Done

-- the calls on the slot come after the first save was made
abbrev pub IsImageWrittenAfter :
    Option CopyFault → Region → List ℕ → Option ℕ → Device → Device → Type 0
IsImageWrittenAfter (Some fault) slot image stuck from to = to ≡ from
IsImageWrittenAfter None slot image stuck from to = IsImageWritten slot image stuck from to

-- the second save comes after they answered Ok
abbrev pub IsSaveRunAfter :
    Option CopyFault → Option ℕ → Keyed → List ℕ → Option ℕ → Option ℕ → List ℕ → Option CopyFault
    → Device → Device → Type 0
IsSaveRunAfter (Some fault) stuck keyed kept used now table late from to =
    (now ≡ used) × (to ≡ from)
IsSaveRunAfter None (Some at) keyed kept used now table late from to = (now ≡ used) × (to ≡ from)
IsSaveRunAfter None None keyed kept used now table late from to =
    IsSaveRun keyed (Some kept) used now table late from to

-- the table that is left by how the steps were answered: the enabled one, once the slot was written
abbrev pub table_left : Option CopyFault → Option ℕ → List ℕ → List ℕ → List ℕ
table_left (Some fault) stuck disabled enabled = disabled
table_left None (Some at) disabled enabled = disabled
table_left None None disabled enabled = enabled

-- The steps were made from the old state, up to this end, and left the new one.
pub record AreStepsRun
    (targets : Binding) (target : ℕ) (slot : Region) (image : List ℕ) (old new : State)
    (from to : Device) (end : InstallEnd) : Type 0 where
  -- another target qualifies
  pub other : is_none (best_of targets (disable_of targets old.table target)) ≡ false
  pub early : Option CopyFault
  pub stuck : Option ℕ
  pub late : Option CopyFault
  pub ends_so : end ≡ install_end_of early stuck late
  -- the copy that is used after the first save; the devices before and after the calls on the slot
  pub copy : Option ℕ
  pub before : Device
  pub behind : Device
  pub saved :
      let disabled = disable_of targets old.table target in
      IsSaveRun (keyed_of old) (Some (last_table_of old)) (used_of old) copy disabled early from before
  pub wrote : IsImageWrittenAfter early slot image stuck before behind
  pub again :
      let disabled = disable_of targets old.table target in
      let enabled = enable_of targets disabled target in
      IsSaveRunAfter early stuck (keyed_of old) disabled copy (used_of new) enabled late behind to
  -- the state afterwards
  pub leaves :
      let disabled = disable_of targets old.table target in
      let enabled = enable_of targets disabled target in
      IsStateLeft (keyed_of old) (table_left early stuck disabled enabled) new to end

-- no other target qualifies, and nothing was done on the device
pub record IsLastTarget (targets : Binding) (disabled : List ℕ) (old new : State) (from to : Device)
    (end : InstallEnd) : Type 0 where
  pub none : is_none (best_of targets disabled) ≡ true
  pub is : end ≡ ends.LastTarget
  pub untouched : to ≡ from
  -- of the state the table alone changed: in it the target is disabled
  pub table : new.table ≡ disabled
  pub backing : new.backing ≡ old.backing

abbrev pub IsInstallRun :
    Binding → ℕ → Region → List ℕ → State → State → Device → Device → InstallEnd → Type 0
IsInstallRun targets target slot image old new from to end =
    IsLastTarget targets (disable_of targets old.table target) old new from to end
    ⊎ AreStepsRun targets target slot image old new from to end
