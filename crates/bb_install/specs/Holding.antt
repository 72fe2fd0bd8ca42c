-- That a slot holds an image, and where it doesn't.
use Rattle.std.specs.Prelude.{◌≡◌, ◌≢◌, ℕ, ◌+◌, ◌<◌, ◌≤◌, ◌⊎◌, List, length, take, drop, slice_get, Option, Some, None}
use Rattle.bb_flash.specs.declared.health.Health.TheVariants.{Lost}
use Rattle.bb_flash.specs.declared.region.Region.{Region}
use Rattle.bb_flash.specs.Image.{Image, health_of}

-- these bytes stand at a place of a device, in pages of which none is Lost
pub record HasBytesAt (page : ℕ) (content : Image) (at : ℕ) (bytes : List ℕ) : Type 0 where
  pub bytes_are : take (length bytes) (drop at content.bytes) ≡ bytes
  pub alive : health_of page content at (length bytes) ≢ Lost

-- a slot's first bytes are the image, and none of their pages is Lost
pub record SlotHolds (page : ℕ) (slot : Region) (image : List ℕ) (content : Image) : Type 0 where
  pub fits : length image ≤ slot.size
  pub stands : HasBytesAt page content slot.at image

-- at this offset another byte stands in the slot, or a page is Lost
abbrev pub DiffersAt : ℕ → Region → List ℕ → Image → ℕ → Type 0
DiffersAt page slot image content offset =
    (slice_get content.bytes (slot.at + offset) ≢ slice_get image offset)
    ⊎ (health_of page content (slot.at + offset) 1 ≡ Lost)

-- this offset is the least of those in the image
pub record IsFirstDifference (page : ℕ) (slot : Region) (image : List ℕ) (content : Image) (offset : ℕ)
    : Type 0 where
  pub inside : offset < length image
  pub differs : DiffersAt page slot image content offset
  pub before : SlotHolds page slot (take offset image) content

-- what a comparison finds: that the slot holds the image, or the first difference
abbrev pub IsComparison : ℕ → Region → List ℕ → Image → Option ℕ → Type 0
IsComparison page slot image content None = SlotHolds page slot image content
IsComparison page slot image content (Some offset) =
    IsFirstDifference page slot image content offset
