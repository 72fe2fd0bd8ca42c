-- What the commands of a script hold, as one value.
use Rattle.std.specs.Prelude.{◌≡◌, ℕ, Bool, true, false, List, None}
use Rattle.bb_copies.specs.Buckets.{AllAgree}
use Rattle.bb_flash.specs.Device.{Device, IsDevice}
use Rattle.bb_layout.specs.Layout.{Laid}
use Rattle.bb_state.specs.Backed.{Backed}
use Rattle.bb_state.specs.Kinds.{any_holding}
use Rattle.bb_state.specs.declared.state.State.{State}
use Rattle.bb_shell.specs.Ends.{IsBoundIn}
use Rattle.bb_script_commands.specs.declared.directions.Directions.{Directions}
use Rattle.bb_script_commands.specs.declared.so_far.SoFar.{SoFar}

pub record Held : Type 0 where
  -- the bytes of all variables
  pub table : List ℕ
  -- the copies, and the table that was last loaded or saved
  pub backed : Backed
  -- the targets, their plans and the cause
  pub by : Directions
  -- whether a boot was run, and the fault that ended a command, if one did
  pub so_far : SoFar

abbrev pub held_of : State → Directions → SoFar → Held
held_of state by so_far =
    record { table = state.table; backed = state.backing; by = by; so_far = so_far }

-- what a command goes by, whatever stands on the device
pub record Known : Type 0 where
  pub layout : Laid
  pub by : Directions
  pub table : List ℕ
  -- whether a boot was run
  pub booted : Bool

abbrev pub known_of : Held → Known
known_of held = record {
  layout = held.backed.keyed.layout;
  by = held.by;
  table = held.table;
  booted = held.so_far.booted;
}

-- before any command
abbrev pub nothing_yet : SoFar
nothing_yet = record { booted = false; fault = None }

-- Commands may be called: the last load or save answered Ok, the targets are bound to the layout,
-- the buckets keep what stands on this device, and no command ended in a fault.
pub record CanCall (held : Held) (device : Device) : Type 0 where
  pub sure : held.backed.sure ≡ true
  pub geometry : device.geometry ≡ held.backed.keyed.layout.geometry
  pub agrees : AllAgree any_holding device held.backed.buckets
  pub whole : IsDevice device
  pub bound : IsBoundIn held.by.chooser held.backed.keyed.layout
  pub unfailed : held.so_far.fault ≡ None
