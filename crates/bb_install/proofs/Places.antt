-- Slots that have a place on a device, and regions that share a byte.
use Rattle.std.proofs.Common.{◌≡◌, ℕ, zero, suc, ◌+◌, ◌<◌, ◌≤◌, ◌%◌, ◌∙◌, ◌⊎◌, true, false, min, max, ap, arith, inl, inr, refl}
use Rattle.std.proofs.Math.Nat.{mod-one}
use Rattle.std.proofs.lemmas.Bool.Decides.{nat_tests}
use Rattle.bb_flash.specs.declared.geometry.Geometry.{Geometry}
use Rattle.bb_flash.specs.declared.region.Region.{Region}
use Rattle.bb_flash.specs.Geometry.{IsGeometry}
use Rattle.bb_flash.proofs.Geometries.{multiple_twice}
use Rattle.bb_bucket.specs.Kind.{LiesOn}
use Rattle.bb_install.specs.Slot.{HasPlace, SharesByte, regions_meet}

pub none_or_some : (n : ℕ) → (n ≡ 0) ⊎ (0 < n)
none_or_some zero = inl refl
none_or_some (suc n) = inr (omega arith)

in_pages : (geometry : Geometry) (n : ℕ) → IsGeometry geometry →
    (0 < geometry.block → n % geometry.block ≡ 0) → n % geometry.page ≡ 0
in_pages geometry n within whole = elim (none_or_some geometry.block) [
  | inl none ↦ ap (λ page. n % page) (within.in_place none) ∙ mod-one n
  | inr some ↦ multiple_twice n geometry.block geometry.page (whole some) (within.blocks some).block_pages
]

-- a slot lies on its device in whole pages
pub slot_lies : (geometry : Geometry) (slot : Region) → IsGeometry geometry → HasPlace geometry slot → LiesOn geometry slot
slot_lies geometry slot within place = record {
  inside = place.inside;
  aligned = in_pages geometry slot.at within place.aligned.at;
  whole = in_pages geometry slot.size within place.aligned.size;
}

pub share_of_meet : (one other : Region) → regions_meet one other ≡ true → SharesByte one other
share_of_meet one other meet =
    let below : max one.at other.at < min (one.at + one.size) (other.at + other.size) = grind (arith, nat_tests) in
    record {
      byte = max one.at other.at;
      from_one = omega arith;
      to_one = omega arith;
      from_other = omega arith;
      to_other = omega arith;
    }

pub no_share_of_miss : (one other : Region) → regions_meet one other ≡ false → SharesByte one other → ⊥
no_share_of_miss one other miss share =
    let above : min (one.at + one.size) (other.at + other.size) ≤ max one.at other.at = grind (arith, nat_tests) in
    omega (arith, share.from_one, share.to_one, share.from_other, share.to_other)

pub meet_of_share : (one other : Region) → SharesByte one other → regions_meet one other ≡ true
meet_of_share one other share =
    let below : max one.at other.at < min (one.at + one.size) (other.at + other.size) = omega (arith, share.from_one, share.to_one, share.from_other, share.to_other) in
    grind (arith, nat_tests)
