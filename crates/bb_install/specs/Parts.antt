-- What one flash call on a slot leaves.
use Rattle.std.specs.Prelude.{◌≡◌, ℕ, ◌+◌, ◌-◌, ◌≤◌, List, length, take}
use Rattle.std.specs.Int.{div_ceil}
use Rattle.std.specs.Option.{ForSome}
use Rattle.bb_flash.specs.declared.region.Region.{Region}
use Rattle.bb_flash.specs.Calls.{ChangesOnly}
use Rattle.bb_flash.specs.Device.{Device, content, erases}
use Rattle.bb_flash.specs.Image.{Image, IsBlank}
use Rattle.bb_install.specs.Holding.{SlotHolds}
use Rattle.bb_install.specs.Ranges.{piece_ranges}
use Rattle.bb_install.specs.Writing.{StopsAmong}

-- a call failed that was to write these bytes at a place of the device
pub record PartFails (at : ℕ) (bytes : List ℕ) (from to : Device) : Type 0 where
  pub changes : ChangesOnly at bytes from to
  pub erases : erases to ≡ erases from

-- a program at this place failed: the pages before it were programmed in pieces of a length
pub record StopsPaging (len : ℕ) (slot : Region) (pages : List ℕ) (at : ℕ) (from to : Device)
    : Type 0 where
  pub calls :
      StopsAmong (piece_ranges len (length pages) slot (div_ceil (length pages) len)) at from to
  pub inside : at - slot.at ≤ length pages
  pub begun : ForSome (content to) (SlotHolds from.geometry.page slot (take (at - slot.at) pages))

-- each part of a region of this size is blank
abbrev pub EachBlank : ℕ → ℕ → Image → Type 0
EachBlank page size part = (at n : ℕ) → at + n ≤ size → IsBlank page part at n
