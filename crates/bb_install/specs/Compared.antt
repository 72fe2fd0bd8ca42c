-- What the parts of a comparison of a slot find.
use Rattle.std.specs.Prelude.{◌≡◌, ◌≢◌, ℕ, ◌+◌, ◌<◌, ◌⊎◌, List, length, take, slice_get, Option, Some, None}
use Rattle.bb_flash.specs.declared.health.Health.TheVariants.{Lost}
use Rattle.bb_flash.specs.Image.{Image, health_of}
use Rattle.bb_install.specs.Holding.{HasBytesAt}

-- this is the first of the bytes that doesn't stand at its place of a device
pub record IsDifferenceAt (page : ℕ) (content : Image) (at : ℕ) (bytes : List ℕ) (offset : ℕ)
    : Type 0 where
  pub inside : offset < length bytes
  pub differs :
      (slice_get content.bytes (at + offset) ≢ slice_get bytes offset)
      ⊎ (health_of page content (at + offset) 1 ≡ Lost)
  pub before : HasBytesAt page content at (take offset bytes)

-- the first of them, or none
abbrev pub IsDifference : ℕ → Image → ℕ → List ℕ → Option ℕ → Type 0
IsDifference page content at bytes None = HasBytesAt page content at bytes
IsDifference page content at bytes (Some offset) = IsDifferenceAt page content at bytes offset

-- this is the first place at which two texts differ
pub record IsUnequalAt (bytes read : List ℕ) (place : ℕ) : Type 0 where
  pub inside : place < length bytes
  pub differs : slice_get read place ≢ slice_get bytes place
  pub before : take place read ≡ take place bytes

-- the first such place, or none
abbrev pub IsUnequal : List ℕ → List ℕ → Option ℕ → Type 0
IsUnequal bytes read None = read ≡ bytes
IsUnequal bytes read (Some place) = IsUnequalAt bytes read place
