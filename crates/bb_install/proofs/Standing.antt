-- What stands in a slot, seen on its device; and what a call beside it leaves.
use Rattle.std.proofs.Common.{◌≡◌, ◌≢◌, ℕ, ◌+◌, ◌-◌, ◌%◌, ◌<◌, ◌≤◌, ◌∙◌, List, ◌++◌, length, take, drop, replicate, ap, sym, subst, arith, inl}
use Rattle.std.proofs.Math.Seq.{drop-append-add}
use Rattle.std.proofs.lemmas.List.{drop-append-le, drop-drop, length-drop, length-replicate, length-take-le, take-append-le}
use Rattle.std.specs.Option.{ForSome}
use Rattle.bb_flash.specs.declared.geometry.Geometry.{Geometry}
use Rattle.bb_flash.specs.declared.health.Health.{Health}
use Rattle.bb_flash.specs.declared.health.Health.TheVariants.{Fine, Lost}
use Rattle.bb_flash.specs.declared.region.Region.{Region}
use Rattle.bb_flash.specs.Calls.{ChangesOnly}
use Rattle.bb_flash.specs.Cuts.{IsLater, IsSameRegion}
use Rattle.bb_flash.specs.Device.{Device, moment}
use Rattle.bb_flash.specs.Image.{Image, IsBlank, health_of, worst_of}
use Rattle.bb_flash.proofs.Moments.{Cuts-now, images_beside, torn_of_call}
use Rattle.bb_bucket.specs.Front.{put_at}
use Rattle.bb_bucket.specs.FrontLaws.{written_fine}
use Rattle.bb_bucket.specs.Kind.{LiesOn, part_of}
use Rattle.bb_bucket.proofs.Pages.{take-drop-part}
use Rattle.bb_bucket.proofs.Within.{health_of-part}
use Rattle.bb_install.specs.Holding.{SlotHolds, HasBytesAt}
use Rattle.bb_install.proofs.Putting.{items_front}

pub fine_alive : (health : Health) → health ≡ Fine → health ≢ Lost
fine_alive health fine lost = (let clash : Fine ≡ Lost = sym fine ∙ lost in absurd cc)

module _ (page : ℕ) (bytes : List ℕ) (part : Image) where
  -- what stands in a region's first bytes once they were written
  pub put_bytes : (at n : ℕ) → at + n ≤ length bytes → take n (drop at (put_at page 0 bytes part).bytes) ≡ take n (drop at bytes)
  put_bytes at n fits =
      ap (λ xs. take n (drop at xs)) (items_front bytes part.bytes)
      ∙ ap (take n) (drop-append-le at bytes (drop (length bytes) part.bytes) (omega arith))
      ∙ take-append-le n (drop at bytes) (drop (length bytes) part.bytes) (omega (arith, length-drop at bytes))

  -- and behind them
  pub put_behind : (at n : ℕ) → length bytes ≤ at → take n (drop at (put_at page 0 bytes part).bytes) ≡ take n (drop at part.bytes)
  put_behind at n past =
      let split : at ≡ length bytes + (at - length bytes) = omega arith in
      ap (λ xs. take n (drop at xs)) (items_front bytes part.bytes)
      ∙ ap (λ k. take n (drop k (bytes ++ drop (length bytes) part.bytes))) split
      ∙ ap (take n) (drop-append-add bytes (drop (length bytes) part.bytes) (at - length bytes))
      ∙ ap (take n) (drop-drop (at - length bytes) (length bytes) part.bytes)
      ∙ ap (λ k. take n (drop k part.bytes)) (sym split)

-- ---- a region on its device

module _ (geometry : Geometry) (slot : Region) (image : Image) where
  region_bytes : (at n : ℕ) → at + n ≤ slot.size → take n (drop at (part_of geometry.page slot image).bytes) ≡ take n (drop (slot.at + at) image.bytes)
  region_bytes at n fits = take-drop-part image.bytes slot.at slot.size at n fits

  -- bytes that were written to the slot's start stand there
  pub put_stands :
      (bytes : List ℕ) (at n : ℕ) (before : Image) → 0 < geometry.page → LiesOn geometry slot →
      length bytes ≤ slot.size → at + n ≤ length bytes →
      part_of geometry.page slot image ≡ put_at geometry.page 0 bytes before →
      HasBytesAt geometry.page image (slot.at + at) (take n (drop at bytes))
  put_stands bytes at n before some lies small fits is =
      let page : ℕ = geometry.page in
      let size : length (take n (drop at bytes)) ≡ n = length-take-le n (drop at bytes) (omega (arith, length-drop at bytes)) in
      record {
        bytes_are =
            ap (λ k. take k (drop (slot.at + at) image.bytes)) size
            ∙ sym (region_bytes at n (omega arith))
            ∙ ap (λ (part : Image). take n (drop at part.bytes)) is
            ∙ put_bytes page bytes before at n fits;
        alive =
            fine_alive _
            (ap (λ k. health_of page image (slot.at + at) k) size
            ∙ health_of-part geometry image slot at n some lies (omega arith)
            ∙ ap (λ (part : Image). health_of page part at n) is
            ∙ written_fine page bytes before at n some fits);
      }

-- the slot holds what was written to its start, and each part of it from there on
pub put_holds :
    (geometry : Geometry) (slot : Region) (bytes : List ℕ) (n : ℕ) (image before : Image) →
    0 < geometry.page → LiesOn geometry slot → length bytes ≤ slot.size → n ≤ length bytes →
    part_of geometry.page slot image ≡ put_at geometry.page 0 bytes before →
    SlotHolds geometry.page slot (take n bytes) image
put_holds geometry slot bytes n image before some lies small fits is =
    let start : slot.at + 0 ≡ slot.at = omega arith in
    let size : length (take n bytes) ≡ n = length-take-le n bytes fits in
    record {
      fits = omega arith;
      stands =
          subst (λ (at : ℕ). HasBytesAt geometry.page image at (take n bytes)) start
          (put_stands geometry slot image bytes 0 n before some lies small (omega arith) is);
    }

-- a part of it that is 0xFF is blank
pub stands_blank : (page at n : ℕ) (image : Image) → HasBytesAt page image at (replicate n 255) → IsBlank page image at n
stands_blank page at n image stands =
    let size : length {A = ℕ} (replicate n 255) ≡ n = length-replicate {A = ℕ} n 255 in
    record {
      clean = ap (λ k. take k (drop at image.bytes)) (sym size) ∙ stands.bytes_are;
      alive = λ lost. stands.alive (ap (λ k. health_of page image at k) size ∙ lost);
    }

-- ---- a call that leaves a region

-- in the second state a region is as in the first
pub record IsKept (at size : ℕ) (from to : Device) : Type 0 where
  pub same : ForSome from.told (λ first. ForSome to.told (λ last. IsSameRegion from.geometry.page at size first.image last.image))

-- a call leaves what stands before its place
pub kept_before :
    (at : ℕ) (bytes : List ℕ) (r n : ℕ) (from to : Device) →
    0 < from.geometry.page → at % from.geometry.page ≡ 0 → length bytes % from.geometry.page ≡ 0 →
    r + n ≤ at → IsLater from to → ChangesOnly at bytes from to → IsKept r n from to
kept_before at bytes r n from to some first whole apart later changes =
    let each = images_beside at (length bytes) r n from to some first whole (inl apart) (torn_of_call at bytes from to later changes) in
    record { same = λ one e last f. each.each one e last f last.image (Cuts-now to.geometry.page last (moment one)) }

pub stands_kept : (page at : ℕ) (bytes : List ℕ) (before image : Image) → IsSameRegion page at (length bytes) before image → HasBytesAt page before at bytes → HasBytesAt page image at bytes
stands_kept page at bytes before image same stands = record {
  bytes_are = same.bytes ∙ stands.bytes_are;
  alive = λ lost. stands.alive (ap worst_of (sym same.health) ∙ lost);
}

pub blank_kept : (page at n : ℕ) (before image : Image) → IsSameRegion page at n before image → IsBlank page before at n → IsBlank page image at n
blank_kept page at n before image same blank = record {
  clean = same.bytes ∙ blank.clean;
  alive = λ lost. blank.alive (ap worst_of (sym same.health) ∙ lost);
}
