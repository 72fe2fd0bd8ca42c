-- The history of the regions of copies: the areas that the records in them pass, oldest first, as
-- the layout reads them. A log may hold many records, another region holds one at most. That an
-- older one was ever acknowledged isn't said.
use Rattle.std.specs.Prelude.{◌≡◌, ℕ, ◌+◌, ◌≤◌, Bool, true, false, List, [], ◌∷◌, ◌++◌, map, option_to_list, slice_get, Some, Result, Ok, Err, IsTrue}
use Rattle.std.specs.Option.{ForSome}
use Rattle.bb_base.specs.Faults.{counted}
use Rattle.bb_base.specs.Form.{Form}
use Rattle.bb_bucket.specs.Calls.{IsQuiet}
use Rattle.bb_bucket.specs.Front.{stride_header_len}
use Rattle.bb_bucket.specs.Kind.{BucketKind, part_of}
use Rattle.bb_bucket.specs.OneBlock.{one_block_kind}
use Rattle.bb_bucket.specs.Stride.{stride_kind}
use Rattle.bb_circular.specs.Circular.{circular_kind}
use Rattle.bb_copies.specs.Passing.{passing_of}
use Rattle.bb_flash.specs.Device.{Device, content}
use Rattle.bb_flash.specs.Image.{Image}
use Rattle.bb_flash.specs.declared.geometry.Geometry.{Geometry}
use Rattle.bb_flash.specs.declared.region.Region.{Region}
use Rattle.bb_layout.specs.Convert.{convert}
use Rattle.bb_layout.specs.Layout.{Laid}
use Rattle.bb_layout.specs.declared.storage.Storage.{Storage}
use Rattle.bb_layout.specs.declared.storage.Storage.TheVariants as storages
use Rattle.bb_state.specs.Keyed.{Keyed}
use Rattle.bb_state.specs.Kinds.{laid_form, laid_regions}
use Rattle.bb_history.specs.Entries.{log_areas}
use Rattle.bb_history.specs.Lines.{copy_text}
use Rattle.bb_history.specs.declared.fault.HistoryFault.{HistoryFault}
use Rattle.bb_history.specs.declared.fault.HistoryFault.TheVariants.{NoMemory, ReadFault}

-- ---- regions

-- what a copy in a region of that storage means, on a device with pages of this size
abbrev pub kind_in : Storage → ℕ → Region → BucketKind
kind_in (storages.Stride stride) page region = stride_kind region
kind_in storages.OneBlock page region = one_block_kind (record { region = region; page = page })
kind_in storages.Circular page region = circular_kind (record { region = region; page = page })

-- a region of that storage on a device of this geometry
pub record IsRegionOf (geometry : Geometry) (storage : Storage) (region : Region) : Type 0 where
  pub serves : IsTrue ((kind_in storage geometry.page region).serves geometry)
  pub room : stride_header_len + 1 ≤ region.size

-- each of them is one
abbrev pub AreRegionsOf : Geometry → Storage → List Region → Type 0
AreRegionsOf geometry storage regions =
    (copy : ℕ) (region : Region) →
    slice_get regions copy ≡ Some region → IsRegionOf geometry storage region

-- the areas that the records in a region pass
abbrev pub region_areas : Form → Storage → ℕ → Region → Image → List (List ℕ)
region_areas form (storages.Stride stride) page region image =
    option_to_list (passing_of form page (kind_in (storages.Stride stride) page region) image)
region_areas form storages.OneBlock page region image =
    option_to_list (passing_of form page (kind_in storages.OneBlock page region) image)
region_areas form storages.Circular page region image =
    log_areas form page (part_of page region image)

-- the areas of its history: each of those, whatever its length, as the layout reads it
abbrev pub history_of : Laid → Form → ℕ → Region → Image → List (List ℕ)
history_of layout form page region image =
    map (convert layout) (region_areas form layout.storage page region image)

-- ---- the text

-- of regions that are those of the copies from a number on
abbrev pub regions_text : Laid → Form → ℕ → ℕ → List Region → Image → List ℕ
regions_text layout form page copy [] image = []
regions_text layout form page copy (region ∷ regions) image =
    copy_text layout.vars copy (history_of layout form page region image)
    ++ regions_text layout form page (copy + 1) regions image

-- of all copies of a layout under its key, in an image of a device with pages of this size
abbrev pub history_text : Keyed → ℕ → Image → List ℕ
history_text keyed page image =
    regions_text keyed.layout (laid_form keyed) page 0 (laid_regions keyed.layout) image

-- ---- a reading

-- a front of a text was added
pub record AddsFront (whole old new : List ℕ) : Type 0 where
  pub front : List ℕ
  pub rest : List ℕ
  pub whole_is : whole ≡ front ++ rest
  pub added : new ≡ old ++ front

-- the text was added, or where that was refused a front of it
abbrev pub Adds : {T E : Type 0} → List ℕ → List ℕ → List ℕ → Result T E → Type 0
Adds whole old new (Ok done) = new ≡ old ++ whole
Adds whole old new (Err fault) = AddsFront whole old new

-- a read of the device failed
abbrev pub is_read_fault : HistoryFault → Bool
is_read_fault ReadFault = true
is_read_fault NoMemory = false

abbrev pub failed_to_read : {T : Type 0} → Result T HistoryFault → Bool
failed_to_read (Ok done) = false
failed_to_read (Err fault) = is_read_fault fault

-- the device was only read, and the text of what it holds was added, or a front of that
pub record ReadsHistory
    {T : Type 0} (text : Image → List ℕ) (from to : Device) (old new : List ℕ)
    (given : Result T HistoryFault) : Type 0 where
  pub told : ForSome (content from) (λ image. Adds (text image) old new given)
  pub quiet : IsQuiet from to
  pub faults : to.faults ≡ counted (failed_to_read given) from.faults
  pub read_faults : to.read_faults ≡ counted (failed_to_read given) from.read_faults
