-- How copies are stored on a device, and whether they fit (barebox User Manual, State Framework).
use Rattle.std.specs.Prelude.{ℕ, ◌+◌, ◌/◌, ◌%◌, ◌==◌, ◌&&◌, ◌||◌, Bool, not, nat_lt, Result, Ok, Err, if◌then◌else◌, unwrap_or}
use Rattle.bb_flash.specs.declared.geometry.Geometry.{Geometry}
use Rattle.bb_flash.specs.declared.region.Region.{Region}
use Rattle.bb_layout.specs.Copies.{copies_of, room_for, spacing}
use Rattle.bb_layout.specs.Steps.{result_then}
use Rattle.bb_layout.specs.declared.storage.Storage.{Storage}
use Rattle.bb_layout.specs.declared.storage.Storage.TheVariants.{Stride, OneBlock, Circular}
use Rattle.bb_layout.specs.declared.state_props.Props.{Props}
use Rattle.bb_layout.specs.declared.layout_error.LayoutError.{LayoutError}
use Rattle.bb_layout.specs.declared.layout_error.LayoutError.TheVariants.{OutOfDevice, TooSmall, Unaligned}

-- on a device that is erased in blocks a partition is made of whole blocks
abbrev pub is_aligned : Geometry → Region → Bool
is_aligned geometry partition =
    (geometry.block == 0) || ((partition.at % geometry.block == 0) && (partition.size % geometry.block == 0))

-- the partition has a place on the device
abbrev pub check_place : Geometry → Region → Result (Unit {0}) LayoutError
check_place geometry partition =
    if not (is_aligned geometry partition) then Err Unaligned
    else if nat_lt geometry.size (partition.at + partition.size) then Err OutOfDevice
    else Ok tt

-- in blocks, as the state node's properties say; or else in strides of the size that they give, or
-- of a third of the partition
abbrev pub storage_of : Geometry → Region → Props → Storage
storage_of geometry partition props =
    if geometry.block == 0 then Stride (unwrap_or props.stride (partition.size / 3))
    else if props.is_circular then Circular
    else OneBlock

-- two copies fit, and a record of that length fits into each
abbrev pub check_room : Geometry → Storage → Region → ℕ → Result (Unit {0}) LayoutError
check_room geometry storage partition len =
    if nat_lt (copies_of geometry storage partition) 2 || nat_lt (spacing geometry storage) (room_for geometry storage len)
    then Err TooSmall
    else Ok tt

-- the storage in a partition of copies with a record of that length
abbrev pub storage_in : Geometry → Region → Props → ℕ → Result Storage LayoutError
storage_in geometry partition props len =
    result_then (check_place geometry partition) (λ _.
    result_then (check_room geometry (storage_of geometry partition props) partition len) (λ _.
    Ok (storage_of geometry partition props)))
