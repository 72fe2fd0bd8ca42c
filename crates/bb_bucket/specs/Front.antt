-- A front: 8 bytes before a record that begins a region, the words 0x2354fdf3 and the record's
-- length, both of 4 bytes and little endian. A stride and a block that holds one record begin with
-- it (barebox User Manual, State Framework, the backend storage types `direct` and `noncircular`;
-- the words' order of bytes is this project's profile).
use Rattle.std.specs.Prelude.{◌≡◌, ◌≢◌, ℕ, ◌+◌, ◌==◌, Bool, true, false, ◌&&◌, not, nat_le, List, ◌++◌, length, take, drop, Option, Some, None, is_some, if◌then◌else◌}
use Rattle.byteorder.specs.Endian.{little_bytes, little_number}
use Rattle.bb_flash.specs.declared.health.Health.{Health}
use Rattle.bb_flash.specs.declared.health.Health.TheVariants.{Fine, Worn, Lost}
use Rattle.bb_flash.specs.declared.region.Region.{Region}
use Rattle.bb_flash.specs.Image.{Image, health_of, with_bytes}

-- how many bytes a front has
abbrev pub stride_header_len : ℕ
stride_header_len = 8

-- a page is Lost, or Worn
abbrev pub is_lost : Health → Bool
is_lost Lost = true
is_lost other = false

abbrev pub is_worn : Health → Bool
is_worn Worn = true
is_worn other = false

-- these bytes were read at a place of a region of this size; they are exact, where none of their
-- pages is Lost
pub record IsPart (page : ℕ) (region : Image) (size at : ℕ) (out : List ℕ) (health : Health)
    : Type 0 where
  pub size_is : length region.bytes ≡ size
  pub health_is : health ≡ health_of page region at (length out)
  pub exact : health ≢ Lost → out ≡ take (length out) (drop at region.bytes)

-- the bytes in front begin with the magic word, and give a length that the region holds
abbrev pub has_front : ℕ → List ℕ → Bool
has_front size front =
    little_number 4 front == 0x2354fdf3
    && nat_le (stride_header_len + little_number 4 (drop 4 front)) size

-- the record's length, as the front says
abbrev pub header_len_of : List ℕ → ℕ
header_len_of front = little_number 4 (drop 4 front)

-- how the pages are in which the bytes stand that the front says are the record
abbrev pub record_health : ℕ → Image → Health
record_health page region =
    health_of page region stride_header_len (header_len_of (take stride_header_len region.bytes))

-- The bytes that stand after a front as its record, if any do. Bytes in a Lost page don't.
abbrev pub front_candidate : ℕ → Image → Option (List ℕ)
front_candidate page region =
    if not (is_lost (health_of page region 0 stride_header_len))
    && has_front (length region.bytes) (take stride_header_len region.bytes)
    && not (is_lost (record_health page region))
    then Some (take (header_len_of (take stride_header_len region.bytes)) (drop stride_header_len region.bytes))
    else None

-- whether one of their pages is Worn
abbrev pub front_is_worn : ℕ → Image → Bool
front_is_worn page region =
    is_some (front_candidate page region) && is_worn (record_health page region)

-- a record with its front
abbrev pub with_header : List ℕ → List ℕ
with_header rec = little_bytes 4 0x2354fdf3 ++ little_bytes 4 (length rec) ++ rec

-- the first bytes of a region
abbrev pub first_bytes : Region → ℕ → Region
first_bytes region len = record { at = region.at; size = len }

-- bytes were written over those at a place of a region, in pages that are Fine since
abbrev pub put_at : ℕ → ℕ → List ℕ → Image → Image
put_at page at bytes region = with_bytes page at bytes Fine region
