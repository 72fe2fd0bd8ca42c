-- What a state is to those who load and save it.
use Rattle.std.specs.Prelude.{◌≡◌, ℕ, Bool, ◌&&◌, not, List, Option, Some, None, Result}
use Rattle.std.specs.Prelude.{if◌then◌else◌}
use Rattle.std.specs.Result.{result_map_both}
use Rattle.std.specs.Str.{bytes_eq}
use Rattle.bb_base.specs.Form.{Form}
use Rattle.bb_flash.specs.Device.{Device, IsDevice}
use Rattle.bb_bucket.specs.Kind.{BucketKind}
use Rattle.bb_copies.specs.Buckets.{AllAgree}
use Rattle.bb_copies.specs.Loading.{LoadFails}
use Rattle.bb_copies.specs.Placing.{AllPlaced}
use Rattle.bb_copies.specs.Saving as saving
use Rattle.bb_copies.specs.declared.answers.CopyFault.{CopyFault}
use Rattle.bb_layout.specs.Layout.{Laid}
use Rattle.bb_state.specs.Backed.{form_in, kinds_in}
use Rattle.bb_state.specs.Keyed.{Keyed}
use Rattle.bb_state.specs.Kinds.{any_holding, laid_form, laid_kinds}
use Rattle.bb_state.specs.declared.state.State.{State}

-- its layout with its key, and the layout alone
abbrev pub keyed_of : State → Keyed
keyed_of state = state.backing.keyed

abbrev pub laid_of : State → Laid
laid_of state = (keyed_of state).layout

-- the format of its copies, and their kinds
abbrev pub form_of : State → Form
form_of state = form_in state.backing

abbrev pub kinds_of : State → List BucketKind
kinds_of state = kinds_in state.backing

-- the area that was last loaded or looked at, as long as it is stored: the empty one where no copy
-- passed
abbrev pub stored_of : State → List ℕ
stored_of state = state.backing.stored

-- the table that was last loaded or saved; and the copy that passed it first, if any did
abbrev pub last_table_of : State → List ℕ
last_table_of state = state.backing.kept

abbrev pub used_of : State → Option ℕ
used_of state = state.backing.used

-- whether the last load or save answered Ok, and no look failed since
abbrev pub is_sure : State → Bool
is_sure state = state.backing.sure

-- whether that is known to be its table, and whether it is known to be another
abbrev pub is_kept : State → Bool
is_kept state = is_sure state && bytes_eq state.table (last_table_of state)

abbrev pub has_changed : State → Bool
has_changed state = is_sure state && not (bytes_eq state.table (last_table_of state))

-- it may be used with a device: one of the layout's geometry, of which its buckets keep what
-- stands there
pub record IsOn (state : State) (device : Device) : Type 0 where
  pub geometry : device.geometry ≡ (laid_of state).geometry
  pub agrees : AllAgree any_holding device state.backing.buckets
  pub whole : IsDevice device

-- so it may be with every device of that geometry
abbrev pub FitsEveryDevice : State → Type 0
FitsEveryDevice state =
    (device : Device) →
    device.geometry ≡ (laid_of state).geometry → IsDevice device → IsOn state device

-- its buckets know where a record goes without a look at the device
abbrev pub IsPlaced : State → Type 0
IsPlaced state = AllPlaced any_holding state.backing.buckets

-- what a look means: where it found a copy, the area that it left, as long as it is stored
abbrev pub looked_as : List ℕ → Result Bool CopyFault → Result (Option (List ℕ)) CopyFault
looked_as stored answer =
    result_map_both (λ found. if found then Some stored else None) (λ e. e) answer

-- a load was refused, as the copies refuse it
abbrev pub IsRefused : Keyed → Device → Device → CopyFault → Type 0
IsRefused keyed from to fault =
    LoadFails (laid_form keyed) (laid_kinds keyed.layout) from to fault

-- all copies pass the table or nothing, some pass it, and the first that does is used
abbrev pub IsStored : Keyed → List ℕ → Option ℕ → Device → Device → Type 0
IsStored keyed table used from to =
    saving.IsSavedAs (laid_form keyed) (laid_kinds keyed.layout) table used from to
