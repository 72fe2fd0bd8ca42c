-- A read in a region is a read of the region alone.
use Rattle.std.proofs.Common.{◌≡◌, ℕ, ◌+◌, ◌/◌, ◌<◌, ◌≤◌, List, length, take, drop, sym, ap, ◌∙◌, arith}
use Rattle.std.proofs.Math.Nat.{add-mul, le_of_mul-le-mul_right}
use Rattle.std.proofs.lemmas.List.{length-drop, length-take-le, take_all}
use Rattle.std.proofs.lemmas.Grind.{common_steps}
use Rattle.bb_flash.specs.declared.geometry.Geometry.{Geometry}
use Rattle.bb_flash.specs.declared.health.Health.{Health}
use Rattle.bb_flash.specs.declared.region.Region.{Region}
use Rattle.bb_flash.specs.Device.{IsReading}
use Rattle.bb_flash.specs.Image.{Image, IsImageOf, health_of, worst_of}
use Rattle.bb_bucket.specs.Front.{IsPart}
use Rattle.bb_bucket.specs.Kind.{LiesOn, part_of}
use Rattle.bb_bucket.proofs.Pages.{take-drop-part, touched_part, touched_region}
use Rattle.bb_flash.proofs.Geometries.{whole_times}

-- how the pages of a range are, on the device and in the region
pub health_of-part :
    (geometry : Geometry) (image : Image) (region : Region) (at n : ℕ) →
    0 < geometry.page → LiesOn geometry region → at + n ≤ region.size →
    health_of geometry.page image (region.at + at) n
    ≡ health_of geometry.page (part_of geometry.page region image) at n
health_of-part geometry image region at n some lies fits =
    ap worst_of
    (touched_part geometry.page region.at region.size at n image.health some lies.aligned lies.whole fits)

-- a region has as many bytes as its size
pub part_size :
    (geometry : Geometry) (image : Image) (region : Region) →
    LiesOn geometry region → IsImageOf geometry image →
    length (part_of geometry.page region image).bytes ≡ region.size
part_size geometry image region lies whole =
    let inside = lies.inside in
    let bytes = whole.bytes in
    grind (arith, common_steps)

-- and as many healths as pages
pub part_pages :
    (geometry : Geometry) (image : Image) (region : Region) →
    0 < geometry.page → LiesOn geometry region → IsImageOf geometry image →
    length (part_of geometry.page region image).health ≡ region.size / geometry.page
part_pages geometry image region some lies whole =
    let page : ℕ = geometry.page in
    let first = whole_times region.at page lies.aligned in
    let times = whole_times region.size page lies.whole in
    let sum = add-mul (region.at / page) (region.size / page) page in
    let all : region.at / page + region.size / page ≤ length image.health = le_of_mul-le-mul_right {k = page} (omega (arith, whole.pages, lies.inside)) some in
    ap length (touched_region page region.at region.size image.health some lies.aligned lies.whole)
    ∙ length-take-le (region.size / page) (drop (region.at / page) image.health) (omega (arith, length-drop (region.at / page) image.health))

-- a read that answered Ok, seen in its region
pub part_read :
    (geometry : Geometry) (image : Image) (region : Region) (at : ℕ) (out : List ℕ) (health : Health) →
    0 < geometry.page → LiesOn geometry region → IsImageOf geometry image →
    at + length out ≤ region.size →
    IsReading geometry.page image (region.at + at) out health →
    IsPart geometry.page (part_of geometry.page region image) region.size at out health
part_read geometry image region at out health some lies whole within reading =
    let page : ℕ = geometry.page in
    record {
      size_is = part_size geometry image region lies whole;
      health_is = reading.worst ∙ health_of-part geometry image region at (length out) some lies within;
      exact = λ alive.
          let here : region.at + at + 0 ≡ region.at + at = omega arith in
          let same = ap (λ a. health_of page image a (length out)) here in
          let read = reading.exact 0 (length out) (omega arith) (λ lost. alive (reading.worst ∙ sym same ∙ lost)) in
          sym (take_all (length out) out (omega arith)) ∙ read
          ∙ ap (λ a. take (length out) (drop a image.bytes)) here
          ∙ sym (take-drop-part image.bytes region.at region.size at (length out) within);
    }
