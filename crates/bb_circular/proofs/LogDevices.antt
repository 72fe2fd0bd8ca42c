-- What a device that only erased, or holds a whole block, says of the block.
use Rattle.std.proofs.Common.{◌≡◌, ℕ, Bool, true, false, List, Option, Some, None, option_map, is_some, refl, sym, ap, ◌∙◌, subst}
use Rattle.std.specs.Option.{ForSome}
use Rattle.bb_flash.specs.declared.geometry.Geometry.{Geometry}
use Rattle.bb_flash.specs.declared.region.Region.{Region}
use Rattle.bb_flash.specs.Cuts.{IsLater}
use Rattle.bb_flash.specs.Device.{Device, Told, content, erases}
use Rattle.bb_flash.specs.Image.{Image, IsImageOf}
use Rattle.bb_bucket.specs.declared.block.Block.{Block}
use Rattle.bb_bucket.specs.Blocks.{erased_block, blank_of}
use Rattle.bb_bucket.specs.BlockLaws.{HasBlock}
use Rattle.bb_bucket.specs.Calls.{ErasesWhere, Leaves, erases_after}
use Rattle.bb_bucket.specs.Kind.{part_of}
use Rattle.bb_bucket.proofs.Runs.{part_after}
use Rattle.bb_circular.specs.CircularLaws.{block_paged}
use Rattle.bb_circular.specs.PagesLaws.{IsPaged}

-- ---- erases

no_erase : (geometry : Geometry) (region : Region) (numbers : Option (List ℕ)) → option_map (erases_after geometry region false) numbers ≡ numbers
no_erase geometry region None = refl
no_erase geometry region (Some numbers) = refl

pub erases_none :
    (region : Region) (f : Image → Bool) (from to : Device) →
    ForSome (content from) (λ image. f (part_of from.geometry.page region image) ≡ false) →
    erases to ≡ erases from → ErasesWhere region f from to
erases_none region f from to none same = record {
  counted = λ before e.
      same ∙ sym (no_erase from.geometry region (erases from))
      ∙ ap (λ b. option_map (erases_after from.geometry region b) (erases from)) (sym (none before e));
}

pub erases_once :
    (region : Region) (f : Image → Bool) (one two three : Device) →
    ForSome (content one) (λ image. f (part_of one.geometry.page region image) ≡ true) →
    ErasesWhere region (λ part. true) one two → erases three ≡ erases two →
    ErasesWhere region f one three
erases_once region f one two three once run same = record {
  counted = λ before e.
      same ∙ run.counted before e
      ∙ ap (λ b. option_map (erases_after one.geometry region b) (erases one)) (sym (once before e));
}

module _ (block : Block) where
  -- what a run left of a block that is blank since
  pub blank_after :
      (from to : Device) (image : Image) →
      HasBlock block from.geometry → IsLater from to →
      Leaves block.region (λ part. erased_block from.geometry.page block.region.size) from to →
      content to ≡ Some image → part_of block.page block.region image ≡ blank_of block
  blank_after from to image held later leaves told =
      let after = part_after block.region (λ part. erased_block from.geometry.page block.region.size) from to image later leaves told in
      subst (λ page. part_of page block.region image ≡ erased_block page block.region.size) held.page after.2

  -- the block of a device that is whole
  pub part_paged :
      (geometry : Geometry) (image : Image) →
      HasBlock block geometry → IsImageOf geometry image →
      IsPaged block.page block.region.size (part_of block.page block.region image)
  part_paged geometry image held whole =
      subst (λ page. IsPaged block.page block.region.size (part_of page block.region image)) held.page
      (block_paged block geometry image held whole)

-- ---- what is told

-- a device that tells what it holds tells all
pub told_image : (told : Option Told) (image : Image) →
    option_map (λ (t : Told). t.image) told ≡ Some image → is_some told ≡ true
told_image None image e = absurd cc
told_image (Some t) image e = refl

pub told_of_numbers : (told : Option Told) (numbers : List ℕ) →
    option_map (λ (t : Told). t.erases) told ≡ Some numbers →
    (image : Image) × (option_map (λ (t : Told). t.image) told ≡ Some image)
told_of_numbers None numbers e = absurd cc
told_of_numbers (Some t) numbers e = (t.image, refl)

-- where the device tells what it holds it tells its numbers
pub numbers_told : (told : Option Told) → is_some told ≡ true →
    (image : Image) × (numbers : List ℕ)
    × (option_map (λ (t : Told). t.image) told ≡ Some image)
    × (option_map (λ (t : Told). t.erases) told ≡ Some numbers)
numbers_told None e = absurd cc
numbers_told (Some t) e = (t.image, t.erases, refl, refl)
