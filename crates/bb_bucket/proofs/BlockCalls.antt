-- The flash calls that a bucket over a block makes: an erase of the block, and a program of its
-- first bytes after one. They are shown for each kind over a block in whose blank block nothing
-- stands.
use Rattle.std.proofs.Common.{◌≡◌, ℕ, ◌+◌, ◌≤◌, List, length, replicate, Option, Some, None, option_map, refl, sym, ap, ◌∙◌, arith, subst, inl, inr, Contains}
use Rattle.std.specs.Option.{ForSome}
use Rattle.std.proofs.lemmas.List.{length-replicate}
use Rattle.bb_flash.specs.declared.geometry.Geometry.{Geometry}
use Rattle.bb_flash.specs.declared.health.Health.TheVariants.{Fine}
use Rattle.bb_flash.specs.Calls.{ChangesOnly}
use Rattle.bb_flash.specs.Cuts.{IsLater}
use Rattle.bb_flash.specs.Device.{Change, Device, IsDevice, Told, change_of, content}
use Rattle.bb_flash.specs.Image.{Image, IsImageOf, with_bytes}
use Rattle.bb_bucket.specs.declared.block.Block.{Block}
use Rattle.bb_bucket.specs.Blocks.{erased_block}
use Rattle.bb_bucket.specs.BlockLaws.{HasBlock, block_lies_on}
use Rattle.bb_bucket.specs.Calls.{EachCall, IsVoidCall, IsWriteCall, Leaves}
use Rattle.bb_bucket.specs.Front.{first_bytes, put_at}
use Rattle.bb_bucket.specs.Kind.{BucketKind, BeginsWithRecord, part_of}
use Rattle.bb_bucket.proofs.Erases.{part_erased}
use Rattle.bb_bucket.proofs.OneCall.{one_call}
use Rattle.bb_bucket.proofs.Programs.{part_programmed}
use Rattle.bb_bucket.proofs.Runs.{calls_joined, leaves_of}

-- a write of a kind may touch the whole region, and its first `len` bytes
pub record NamesBoth (kind : BucketKind) (page : ℕ) (rec : List ℕ) (len : ℕ) (image : Image) : Type 0 where
  pub whole : Contains (kind.write_ranges rec (part_of page kind.region image)) kind.region
  pub first : Contains (kind.write_ranges rec (part_of page kind.region image)) (first_bytes kind.region len)

-- the block of a kind
abbrev pub kind_block : BucketKind → ℕ → Block
kind_block kind page = record { region = kind.region; page = page }

pub content_of : (told : Option Told) (first : Told) → told ≡ Some first → option_map (λ (t : Told). t.image) told ≡ Some first.image
content_of told first e = ap (option_map (λ (t : Told). t.image)) e

-- what a fact that is given of the first image adds to each call
pub calls_given :
    (S : Image → Type 0) (P : Image → Change → Type 0) (from to : Device) →
    ForSome (content from) S → EachCall (λ image change. S image → P image change) from to →
    EachCall P from to
calls_given S P from to given calls = record {
  each = λ first e last f call change late made.
      calls.each first e last f call change late made (given first.image (content_of from.told first e));
}

module _ (kind : BucketKind) (page : ℕ) (none : kind.candidate_of (erased_block page kind.region.size) ≡ None) where
  blank_none : (geometry : Geometry) → HasBlock (kind_block kind page) geometry → kind.candidate_of (erased_block geometry.page kind.region.size) ≡ None
  blank_none geometry held = ap (λ p. kind.candidate_of (erased_block p kind.region.size)) held.page ∙ none

  -- nothing stands in the region once it was erased
  erased_none :
      (geometry : Geometry) (image : Image) →
      HasBlock (kind_block kind page) geometry → IsImageOf geometry image →
      kind.candidate_of
      (part_of geometry.page kind.region (with_bytes geometry.page kind.region.at (replicate kind.region.size 255) Fine image))
      ≡ None
  erased_none geometry image held whole =
      ap kind.candidate_of
      (part_erased kind.region geometry image (omega (arith, held.page, held.page_least)) (block_lies_on (kind_block kind page) geometry held) whole)
      ∙ blank_none geometry held

  blank_len : length {A = ℕ} (replicate kind.region.size 255) ≡ kind.region.size
  blank_len = length-replicate {A = ℕ} kind.region.size 255

  pub erase_in_void :
      (geometry : Geometry) (image : Image) →
      HasBlock (kind_block kind page) geometry → IsImageOf geometry image →
      Contains kind.void_ranges kind.region →
      IsVoidCall kind geometry.page image (change_of geometry.page kind.region.at (replicate kind.region.size 255) image)
  erase_in_void geometry image held whole named =
      record {
        within = record { low = omega arith; high = omega (arith, blank_len) };
        range = subst (λ n. Contains kind.void_ranges (first_bytes kind.region n)) (sym blank_len) named;
        begins = inl refl;
        leaves = inr (erased_none geometry image held whole);
      }

  pub erase_in_write :
      (geometry : Geometry) (rec : List ℕ) (image : Image) →
      HasBlock (kind_block kind page) geometry → IsImageOf geometry image →
      Contains (kind.write_ranges rec (part_of geometry.page kind.region image)) kind.region →
      IsWriteCall kind geometry.page rec image (change_of geometry.page kind.region.at (replicate kind.region.size 255) image)
  erase_in_write geometry rec image held whole named =
      record {
        within = record { low = omega arith; high = omega (arith, blank_len) };
        range = subst (λ n. Contains (kind.write_ranges rec (part_of geometry.page kind.region image)) (first_bytes kind.region n)) (sym blank_len) named;
        begins = inl (inl refl);
        leaves = inl (inr (erased_none geometry image held whole));
      }

  -- a program of the first bytes of a block that is blank, in a write that began with another image
  program_in_write :
      (geometry : Geometry) (rec bytes : List ℕ) (first image : Image) →
      HasBlock (kind_block kind page) geometry → IsImageOf geometry image →
      length bytes ≤ kind.region.size →
      BeginsWithRecord rec (kind.candidate_of (put_at page 0 bytes (erased_block page kind.region.size))) →
      NamesBoth kind geometry.page rec (length bytes) first →
      part_of geometry.page kind.region image ≡ erased_block geometry.page kind.region.size →
      IsWriteCall kind geometry.page rec first (change_of geometry.page kind.region.at bytes image)
  program_in_write geometry rec bytes first image held whole fits begun names blank =
      let start : kind.region.at ≡ kind.region.at + 0 = omega arith in
      let after =
      ap (λ at. part_of geometry.page kind.region (with_bytes geometry.page at bytes Fine image)) start
      ∙ part_programmed kind.region geometry 0 bytes image (omega (arith, held.page, held.page_least)) (block_lies_on (kind_block kind page) geometry held) (omega (arith, fits)) whole
      ∙ ap (put_at geometry.page 0 bytes) blank
      ∙ ap (λ p. put_at p 0 bytes (erased_block p kind.region.size)) held.page in
      record {
        within = record { low = omega arith; high = omega (arith, fits) };
        range = names.first;
        begins = inl (inr (ap kind.candidate_of blank ∙ blank_none geometry held));
        leaves = inr (subst (λ (part : Image). BeginsWithRecord rec (kind.candidate_of part)) (sym after) begun);
      }

  -- a void that erases
  pub void_calls :
      (from to : Device) →
      HasBlock (kind_block kind page) from.geometry → Contains kind.void_ranges kind.region →
      IsLater from to → IsDevice to →
      ChangesOnly kind.region.at (replicate kind.region.size 255) from to →
      EachCall (IsVoidCall kind from.geometry.page) from to
  void_calls from to held named later whole changes =
      one_call (IsVoidCall kind from.geometry.page) kind.region.at (replicate kind.region.size 255) from to
      (λ image fits. erase_in_void from.geometry image held fits named) later whole changes

  -- the erase that a write begins with
  pub erase_calls :
      (from to : Device) (rec : List ℕ) (len : ℕ) →
      HasBlock (kind_block kind page) from.geometry →
      ForSome (content from) (NamesBoth kind from.geometry.page rec len) →
      IsLater from to → IsDevice to →
      ChangesOnly kind.region.at (replicate kind.region.size 255) from to →
      EachCall (IsWriteCall kind from.geometry.page rec) from to
  erase_calls from to rec len held named later whole changes =
      let given : Image → Type 0 = NamesBoth kind from.geometry.page rec len in
      calls_given given (IsWriteCall kind from.geometry.page rec) from to named
      (one_call (λ image change. given image → IsWriteCall kind from.geometry.page rec image change) kind.region.at (replicate kind.region.size 255) from to
      (λ image fits names. erase_in_write from.geometry rec image held fits names.whole) later whole changes)

  -- an erase that answered Ok, and the program after it
  pub erase_then_program :
      (one two three : Device) (rec bytes : List ℕ) →
      HasBlock (kind_block kind page) one.geometry → length bytes ≤ kind.region.size →
      BeginsWithRecord rec (kind.candidate_of (put_at page 0 bytes (erased_block page kind.region.size))) →
      ForSome (content one) (NamesBoth kind one.geometry.page rec (length bytes)) →
      IsLater one two → IsLater two three → IsDevice two → IsDevice three →
      ChangesOnly kind.region.at (replicate kind.region.size 255) one two →
      Leaves kind.region (λ part. erased_block one.geometry.page kind.region.size) one two →
      ChangesOnly kind.region.at bytes two three →
      EachCall (IsWriteCall kind one.geometry.page rec) one three
  erase_then_program one two three rec bytes held fits begun named early late mid_whole last_whole erased blank programmed =
      let p : ℕ = one.geometry.page in
      let given : Image → Type 0 = NamesBoth kind p rec (length bytes) in
      let is_blank : Image → Type 0 = λ image. part_of p kind.region image ≡ erased_block p kind.region.size in
      let write : Image → Change → Type 0 = IsWriteCall kind p rec in
      let second : Image → Change → Type 0 = λ image change. (first : Image) → given first → is_blank image → write first change in
      let both : Image → Change → Type 0 = λ image change. given image → write image change in
      let held_two : HasBlock (kind_block kind page) two.geometry = subst (λ (g : Geometry). HasBlock (kind_block kind page) g) (sym early.geometry) held in
      let second_run : EachCall second two three =
      one_call second kind.region.at bytes two three
      (λ image whole first names blank.
      subst (λ (g : Geometry). IsWriteCall kind p rec first (change_of g.page kind.region.at bytes image)) (sym early.geometry)
      (program_in_write one.geometry rec bytes first image held (subst (λ (g : Geometry). IsImageOf g image) early.geometry whole) fits begun names blank))
      late last_whole programmed in
      let first_run = erase_calls one two rec (length bytes) held named early mid_whole erased in
      calls_given given write one three named
      (calls_joined write second both (λ first image. is_blank image) one two three
      (λ image change made names. made)
      (λ first image change blank made names. made first names blank)
      early late (leaves_of kind.region (λ part. erased_block p kind.region.size) one two blank) first_run second_run)
