-- The buckets of the copies, as their kinds.
use Rattle.std.specs.Prelude.{◌≡◌, ◌≢◌, ◌⊎◌, ℕ, ◌+◌, ◌<◌, ◌≤◌, List, length, map, min, slice_get, Some, IsTrue}
use Rattle.bb_base.specs.Form.{Form}
use Rattle.bb_flash.specs.declared.geometry.Geometry.{Geometry}
use Rattle.bb_flash.specs.declared.region.Region.{Region}
use Rattle.bb_flash.specs.Device.{Device}
use Rattle.bb_bucket.specs.Calls.{Agrees}
use Rattle.bb_bucket.specs.Kind.{BucketKind, Holding}
use Rattle.bb_copies.specs.declared.room.Room.{Room}

-- the kind of each bucket
abbrev pub kinds_of : {B : Type 0} → (B → Holding) → List B → List BucketKind
kinds_of holding buckets = map (λ bucket. (holding bucket).kind) buckets

-- each bucket keeps of its region what stands there
abbrev pub AllAgree : {B : Type 0} → (B → Holding) → Device → List B → Type 0
AllAgree {B} holding device buckets =
    (copy : ℕ) (bucket : B) → slice_get buckets copy ≡ Some bucket → Agrees (holding bucket) device

-- P holds of each copy's number and kind
abbrev pub EachCopy : List BucketKind → (ℕ → BucketKind → Type 0) → Type 0
EachCopy kinds P = (copy : ℕ) (kind : BucketKind) → slice_get kinds copy ≡ Some kind → P copy kind

-- two regions share no byte
abbrev pub IsApart : Region → Region → Type 0
IsApart one two = (one.at + one.size ≤ two.at) ⊎ (two.at + two.size ≤ one.at)

-- a region shares no byte with any copy's
abbrev pub IsOutside : List BucketKind → Region → Type 0
IsOutside kinds region = EachCopy kinds (λ copy kind. IsApart kind.region region)

-- no two copies share a byte
abbrev pub AreApart : List BucketKind → Type 0
AreApart kinds =
    EachCopy kinds
    (λ copy kind. EachCopy kinds (λ other beside. other ≢ copy → IsApart kind.region beside.region))

-- a record of this length may be written to each copy, and the copies stand apart
pub record HaveRoom (len : ℕ) (kinds : List BucketKind) : Type 0 where
  pub room : EachCopy kinds (λ copy kind. len ≤ kind.most)
  pub apart : AreApart kinds

-- What is found in a copy, and passes, may be written to each copy: its record is at most as long
-- as counts when it is checked, and as there is room for. The copies stand apart.
pub record TakeEachOther (form : Form) (kinds : List BucketKind) : Type 0 where
  pub each :
      EachCopy kinds
      (λ copy kind. EachCopy kinds (λ other beside. min form.reach kind.room ≤ beside.most))
  pub apart : AreApart kinds

-- so many bytes are enough for each record that is found in a copy, and passes
abbrev pub FindsAtMost : Form → ℕ → List BucketKind → Type 0
FindsAtMost form bound kinds = EachCopy kinds (λ copy kind. min form.reach kind.room ≤ bound)

-- an area of this length was found in a copy: what is enough for each is enough for its record
abbrev pub IsFoundWithin : Form → List BucketKind → ℕ → Type 0
IsFoundWithin form kinds len =
    (bound : ℕ) → FindsAtMost form bound kinds → form.length_of len ≤ bound

-- they are made for devices of this geometry
abbrev pub AllServe : List BucketKind → Geometry → Type 0
AllServe kinds geometry = EachCopy kinds (λ copy kind. IsTrue (kind.serves geometry))

-- the memory that copies are read into holds a byte of a record at least, and the longest area
pub record HasMemory (form : Form) (memory : Room) : Type 0 where
  pub piece : 0 < length memory.piece.items
  pub area : length memory.area.items ≡ form.area_len
