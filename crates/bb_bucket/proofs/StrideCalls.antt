-- The flash call of a write to a stride, and that of a void.
use Rattle.std.proofs.Common.{◌≡◌, ℕ, ◌+◌, ◌≤◌, List, [], ◌∷◌, length, replicate, refl, sym, ap, ◌∙◌, arith, subst, inl, inr, Contains}
use Rattle.std.proofs.lemmas.List.{append-nil}
use Rattle.bb_flash.specs.declared.geometry.Geometry.{Geometry}
use Rattle.bb_flash.specs.declared.health.Health.TheVariants.{Fine}
use Rattle.bb_flash.specs.declared.region.Region.{Region}
use Rattle.bb_flash.specs.Calls.{ChangesOnly}
use Rattle.bb_flash.specs.Cuts.{IsLater}
use Rattle.bb_flash.specs.Device.{Device, IsDevice, change_of}
use Rattle.bb_flash.specs.Image.{Image, IsImageOf, with_bytes}
use Rattle.bb_bucket.specs.Calls.{EachCall, IsVoidCall, IsWriteCall}
use Rattle.bb_bucket.specs.Front.{with_header, first_bytes, put_at}
use Rattle.bb_bucket.specs.FrontLaws.{written_begins}
use Rattle.bb_bucket.specs.Kind.{BeginsWithRecord, part_of}
use Rattle.bb_bucket.specs.Stride.{begun_with, stride_candidate, stride_kind}
use Rattle.bb_bucket.specs.StrideLaws.{IsHeld, stride_lies_on}
use Rattle.bb_bucket.proofs.OneCall.{one_call}
use Rattle.bb_bucket.proofs.Programs.{part_programmed}

pub only_one : {X : Type 0} (x y : X) → x ≡ y → Contains (x ∷ []) y
only_one x y same = (0, omega arith, same)

-- what stands in a stride once bytes were programmed over its first ones
stride_programmed :
    (stride : Region) (geometry : Geometry) (bytes : List ℕ) (image : Image) →
    IsHeld stride geometry → length bytes ≤ stride.size → IsImageOf geometry image →
    part_of geometry.page stride (with_bytes geometry.page stride.at bytes Fine image)
    ≡ begun_with bytes (part_of geometry.page stride image)
stride_programmed stride geometry bytes image held fits whole =
    let start : stride.at ≡ stride.at + 0 = omega arith in
    ap (λ at. part_of geometry.page stride (with_bytes geometry.page at bytes Fine image)) start
    ∙ part_programmed stride geometry 0 bytes image (omega (arith, held.page)) (stride_lies_on stride geometry held) (omega (arith, fits)) whole
    ∙ ap (λ page. put_at page 0 bytes (part_of geometry.page stride image)) held.page

pub write_call :
    (stride : Region) (geometry : Geometry) (rec : List ℕ) (image : Image) →
    IsHeld stride geometry → 8 + length rec ≤ stride.size → IsImageOf geometry image →
    IsWriteCall (stride_kind stride) geometry.page rec image (change_of geometry.page stride.at (with_header rec) image)
write_call stride geometry rec image held fits whole =
    let long : 8 + length rec ≡ length (with_header rec) = omega arith in
    let after = stride_programmed stride geometry (with_header rec) image held (omega (arith, fits)) whole in
    let begins =
    written_begins 1 rec [] (with_header rec) (part_of geometry.page stride image) (omega arith)
    (omega (arith, fits, held.small, held.inside)) (sym (append-nil (with_header rec))) in
    record {
      within = record { low = omega arith; high = omega (arith, fits) };
      range = only_one _ _ (ap (first_bytes stride) long);
      begins = inl (inl refl);
      leaves = inr (subst (λ (part : Image). BeginsWithRecord rec (stride_candidate part)) (sym after) begins);
    }

pub void_call :
    (stride : Region) (geometry : Geometry) (image : Image) →
    IsHeld stride geometry → 8 ≤ stride.size → IsImageOf geometry image →
    IsVoidCall (stride_kind stride) geometry.page image (change_of geometry.page stride.at (replicate 8 0) image)
void_call stride geometry image held fits whole =
    record {
      within = record { low = omega arith; high = omega (arith, fits) };
      range = only_one _ _ refl;
      begins = inl refl;
      leaves = inr (ap stride_candidate (stride_programmed stride geometry (replicate 8 0) image held fits whole));
    }

-- each flash call of a write, where its one program was to write front and record
pub write_calls :
    (stride : Region) (rec : List ℕ) (from to : Device) →
    IsHeld stride from.geometry → 8 + length rec ≤ stride.size → IsLater from to → IsDevice to →
    ChangesOnly stride.at (with_header rec) from to →
    EachCall (IsWriteCall (stride_kind stride) from.geometry.page rec) from to
write_calls stride rec from to held fits later whole changes =
    one_call _ stride.at (with_header rec) from to (λ image of_device. write_call stride from.geometry rec image held fits of_device) later whole changes

-- and of a void, where it was to write zeros over the front
pub void_calls :
    (stride : Region) (from to : Device) →
    IsHeld stride from.geometry → 8 ≤ stride.size → IsLater from to → IsDevice to →
    ChangesOnly stride.at (replicate 8 0) from to →
    EachCall (IsVoidCall (stride_kind stride) from.geometry.page) from to
void_calls stride from to held fits later whole changes =
    one_call _ stride.at (replicate 8 0) from to (λ image of_device. void_call stride from.geometry image held fits of_device) later whole changes
