-- What the calls that write an image to a slot make of a device.
use Rattle.std.specs.Prelude.{◌≡◌, ℕ, ◌+◌, ◌-◌, ◌/◌, ◌<◌, ◌==◌, ◌⊎◌, zero, suc, List, [], ◌∷◌, ◌++◌, length, map, take, if◌then◌else◌, option_map, Result, is_err}
use Rattle.std.specs.Option.{ForSome}
use Rattle.bb_base.specs.Faults.{counted}
use Rattle.bb_flash.specs.declared.geometry.Geometry.{Geometry}
use Rattle.bb_flash.specs.declared.region.Region.{Region}
use Rattle.bb_flash.specs.Device.{Device, Told, content, erases, reads}
use Rattle.bb_flash.specs.Image.{Image, IsBlank}
use Rattle.bb_bucket.specs.Blocks.{filled_len, filled_to}
use Rattle.bb_bucket.specs.Calls.{ChangesWithin, Leaves, range_of}
use Rattle.bb_bucket.specs.Front.{put_at}
use Rattle.bb_install.specs.Holding.{SlotHolds}
use Rattle.bb_install.specs.Ranges.{block_ranges, slot_ranges}

-- these calls were made since, one after another, by the ranges that they touch
abbrev pub AreMade : List Region → Told → Told → Type 0
AreMade ranges first last = map range_of last.changes ≡ map range_of first.changes ++ ranges

-- so many numbers, from one on, are one more each
abbrev pub counted_once : ℕ → ℕ → List ℕ → List ℕ
counted_once first count [] = []
counted_once (suc first) count (n ∷ numbers) = n ∷ counted_once first count numbers
counted_once zero (suc count) (n ∷ numbers) = (n + 1) ∷ counted_once zero count numbers
counted_once zero zero (n ∷ numbers) = n ∷ numbers

-- the numbers of erases, once so many blocks of the slot were erased once each
abbrev pub erases_of_slot : Geometry → Region → ℕ → List ℕ → List ℕ
erases_of_slot geometry slot count numbers = counted_once (slot.at / geometry.block) count numbers

-- calls on a slot, the last of which answered this: they change nothing outside the slot, whatever
-- moment a cut falls into, and only that last one may have failed
pub record SlotCalls {T E : Type 0} (result : Result T E) (slot : Region) (from to : Device)
    : Type 0 where
  pub within : ChangesWithin slot from to
  pub faults : to.faults ≡ counted (is_err result) from.faults
  pub read_faults : to.read_faults ≡ from.read_faults
  pub reads : reads to ≡ reads from

-- calls that answered Ok: their ranges, and what they make of the slot
pub record SlotWrites (ranges : List Region) (slot : Region) (f : Image → Image) (from to : Device)
    : Type 0 where
  pub made : ForSome from.told (λ first. ForSome to.told (AreMade ranges first))
  pub leaves : Leaves slot f from to

-- the bytes that are written to the slot's start: on a device with blocks the image, and 0xFF up to
-- the slot's end
abbrev pub slot_text : Geometry → Region → List ℕ → List ℕ
slot_text geometry slot image = if geometry.block == 0 then image else filled_to slot.size image

-- The image was written: all calls were made, and each block of the slot was erased once. The slot
-- holds the image, and is blank after its last page.
pub record IsInstalled (slot : Region) (image : List ℕ) (from to : Device) : Type 0 where
  pub writes :
      let geometry = from.geometry in
      SlotWrites (slot_ranges geometry slot (length image)) slot
      (put_at geometry.page 0 (slot_text geometry slot image)) from to
  pub erases :
      let geometry = from.geometry in
      erases to
      ≡ option_map (erases_of_slot geometry slot (slot.size / geometry.block)) (erases from)
  pub holds : ForSome (content to) (SlotHolds from.geometry.page slot image)
  pub blank :
      0 < from.geometry.block →
      let len = filled_len from.geometry.page (length image) in
      ForSome (content to)
      (λ held. IsBlank from.geometry.page held (slot.at + len) (slot.size - len))

-- Of these calls those before one were made, and that one failed, which begins at this place. It is
-- recorded, or was refused.
pub record StopsAmong (ranges : List Region) (at : ℕ) (from to : Device) : Type 0 where
  pub before : List Region
  pub call : Region
  pub others : List Region
  pub split : ranges ≡ before ++ call ∷ others
  pub place : call.at ≡ at
  pub made :
      ForSome from.told
      (λ first.
      ForSome to.told
      (λ last. AreMade before first last ⊎ AreMade (before ++ call ∷ []) first last))

-- an erase at this place failed: the slot's blocks before it were erased once each, and are blank
pub record StopsErasing (slot : Region) (at : ℕ) (from to : Device) : Type 0 where
  pub calls :
      let geometry = from.geometry in
      StopsAmong (block_ranges geometry.block slot (slot.size / geometry.block)) at from to
  pub blank :
      ForSome (content to) (λ held. IsBlank from.geometry.page held slot.at (at - slot.at))
  pub erases :
      let geometry = from.geometry in
      erases to
      ≡ option_map (erases_of_slot geometry slot ((at - slot.at) / geometry.block)) (erases from)

-- a program at this place failed: each block of the slot was erased once, and the slot's bytes
-- before the place are the image's
pub record StopsProgramming (slot : Region) (image : List ℕ) (at : ℕ) (from to : Device) : Type 0 where
  pub calls : StopsAmong (slot_ranges from.geometry slot (length image)) at from to
  pub begun :
      ForSome (content to) (SlotHolds from.geometry.page slot (take (at - slot.at) image))
  pub erases :
      let geometry = from.geometry in
      erases to
      ≡ option_map (erases_of_slot geometry slot (slot.size / geometry.block)) (erases from)

-- a call at this place failed
abbrev pub StopsAt : Region → List ℕ → ℕ → Device → Device → Type 0
StopsAt slot image at from to =
    StopsErasing slot at from to ⊎ StopsProgramming slot image at from to
