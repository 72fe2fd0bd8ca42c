-- Buckets that know where a record goes without a look at the device, so that to write reads
-- nothing.
use Rattle.std.specs.Prelude.{◌≡◌, ◌≢◌, ℕ, Bool, true, List, slice_get, Some, IsTrue}
use Rattle.bb_flash.specs.Device.{Device, reads}
use Rattle.bb_bucket.specs.Kind.{Holding}
use Rattle.bb_copies.specs.Refreshing.{is_marked}
use Rattle.bb_copies.specs.Settling.{NothingFails}

-- the bucket of this number is placed
abbrev pub IsPlacedAt : {B : Type 0} → (B → Holding) → List B → ℕ → Type 0
IsPlacedAt {B} holding buckets copy =
    (bucket : B) → slice_get buckets copy ≡ Some bucket → IsTrue (holding bucket).knows_place

-- every bucket is placed
abbrev pub AllPlaced : {B : Type 0} → (B → Holding) → List B → Type 0
AllPlaced holding buckets = (copy : ℕ) → IsPlacedAt holding buckets copy

-- the bucket of this number is placed now, and each other if it was before
abbrev pub PlacesCopy : {B : Type 0} → (B → Holding) → ℕ → List B → List B → Type 0
PlacesCopy holding copy before after =
    (place : ℕ) →
    (place ≢ copy → IsPlacedAt holding before place) → IsPlacedAt holding after place

-- each bucket that isn't marked is placed now, and each that is marked if it was before
abbrev pub PlacesUnmarked : {B : Type 0} → (B → Holding) → List Bool → List B → List B → Type 0
PlacesUnmarked holding marked before after =
    (copy : ℕ) →
    (is_marked marked copy ≡ true → IsPlacedAt holding before copy) → IsPlacedAt holding after copy

-- where no call failed nothing was read
abbrev pub ReadsNothing : Device → Device → Type 0
ReadsNothing from to = NothingFails from to → reads to ≡ reads from
