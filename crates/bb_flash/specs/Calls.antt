-- What each call of a flash leaves of what the device tells.
use Rattle.std.specs.Prelude.{◌≡◌, ℕ, ◌+◌, ◌*◌, ◌/◌, ◌<◌, ◌≤◌, ◌%◌, ◌⊎◌, Bool, List, [], ◌∷◌, ◌++◌, length, replicate, slice_index, slice_set, if◌then◌else◌, Result, is_err, is_ok, option_map}
use Rattle.std.specs.Option.{ForSome}
use Rattle.bb_base.specs.Faults.{counted}
use Rattle.bb_flash.specs.declared.geometry.Geometry.{Geometry}
use Rattle.bb_flash.specs.declared.health.Health.TheVariants.{Fine}
use Rattle.bb_flash.specs.declared.plan.Plan.{Plan}
use Rattle.bb_flash.specs.Image.{Image, IsBlank, Torn, with_bytes}
use Rattle.bb_flash.specs.Cuts.{EachTorn, IsLater}
use Rattle.bb_flash.specs.Device.{Told, Device, IsDevice, LeavesStarts, change_of, content, reads}

-- what is told after a read: it counts where it answered Ok
abbrev pub told_after_read : Bool → Told → Told
told_after_read done told = record told { reads = (if done then told.reads + 1 else told.reads) }

-- with one change more: a call that was to write these bytes left this image
abbrev pub with_change : ℕ → ℕ → List ℕ → Image → Told → Told
with_change page at bytes image told =
    record told { image = image; changes = told.changes ++ change_of page at bytes told.image ∷ [] }

-- what is told after a program that answered Ok: exactly these bytes, in pages that are Fine
abbrev pub told_after_program : ℕ → ℕ → List ℕ → Told → Told
told_after_program page at bytes told =
    with_change page at bytes (with_bytes page at bytes Fine told.image) told

-- the bytes that an erase writes
abbrev pub erased_bytes : Geometry → List ℕ
erased_bytes geometry = replicate geometry.block 255

-- with one erase of a block more
abbrev pub with_erase : ℕ → Told → Told
with_erase block told =
    record told { erases = slice_set told.erases block (slice_index told.erases block + 1) }

-- what is told after an erase that answered Ok: the block holds 0xFF alone, and its pages are Fine
abbrev pub told_after_erase : Geometry → ℕ → Told → Told
told_after_erase geometry block told =
    with_erase block
    (told_after_program geometry.page (block * geometry.block) (erased_bytes geometry) told)

-- what is told after a start that answered Ok: it is the last one, with what the device holds
abbrev pub told_after_start : Plan → Told → Told
told_after_start plan told =
    record told { starts = told.starts ++ (record { plan = plan; image = told.image }) ∷ [] }

-- one change came, which left what is torn from what was before
pub record IsTornBy (page at : ℕ) (bytes : List ℕ) (before after : Told) : Type 0 where
  pub torn : Torn page at (length bytes) before.image after.image
  pub change : after.changes ≡ before.changes ++ change_of page at bytes before.image ∷ []

-- no change came
pub record HasNoChange (before after : Told) : Type 0 where
  pub image : after.image ≡ before.image
  pub changes : after.changes ≡ before.changes

-- what a program or an erase that is to write these bytes at a place may do to the image, whatever
-- it answers: nothing at all, or one change
pub record ChangesOnly (at : ℕ) (bytes : List ℕ) (from to : Device) : Type 0 where
  pub told :
      ForSome from.told
      (λ before.
      ForSome to.told
      (λ after. HasNoChange before after ⊎ IsTornBy from.geometry.page at bytes before after))

-- a read, whatever it answers: it is counted where it answers Ok, as a fault where it fails, and
-- changes nothing
pub record IsReadCall {T E : Type 0} (result : Result T E) (before after : Device) : Type 0 where
  pub told : after.told ≡ option_map (told_after_read (is_ok result)) before.told
  pub later : IsLater before after
  pub whole : IsDevice after
  pub faults : after.faults ≡ counted (is_err result) before.faults
  pub read_faults : after.read_faults ≡ counted (is_err result) before.read_faults
  pub start_faults : after.start_faults ≡ before.start_faults

-- a program or an erase that is to write these bytes at a place, whatever it answers: nothing but
-- them changes, and no cut during it leaves more than their pages torn
pub record IsChangeCall
    {T E : Type 0} (result : Result T E) (at : ℕ) (bytes : List ℕ) (before after : Device)
    : Type 0 where
  pub changes : ChangesOnly at bytes before after
  pub images : EachTorn at (length bytes) before after
  pub reads : reads after ≡ reads before
  pub later : IsLater before after
  pub starts : LeavesStarts before after
  pub whole : IsDevice after
  pub faults : after.faults ≡ counted (is_err result) before.faults
  pub read_faults : after.read_faults ≡ before.read_faults

-- bytes may be programmed at a place: whole pages inside the device, and blank ones where it is
-- erased in blocks
pub record CanProgram (device : Device) (at len : ℕ) : Type 0 where
  pub some : 0 < len
  pub inside : at + len ≤ device.geometry.size
  pub aligned : at % device.geometry.page ≡ 0
  pub whole : len % device.geometry.page ≡ 0
  pub blank :
      0 < device.geometry.block →
      ForSome (content device) (λ image. IsBlank device.geometry.page image at len)

-- there are blocks, and the one of this number is inside the device
pub record CanErase (geometry : Geometry) (block : ℕ) : Type 0 where
  pub blocks : 0 < geometry.block
  pub inside : block < geometry.size / geometry.block
