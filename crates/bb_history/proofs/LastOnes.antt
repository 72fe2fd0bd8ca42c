-- The newest entry of a block, as a look finds it, is the last of its history.
use Rattle.std.proofs.Common.{◌≡◌, ℕ, zero, suc, ◌+◌, ◌-◌, ◌/◌, ◌≤◌, List, [], ◌∷◌, ◌++◌, filter_map, map, slice_get, Option, Some, None, option_map, option_to_list, refl, sym, ap, subst, ◌∙◌, arith}
use Rattle.std.specs.List.{cons_option, range_with_len}
use Rattle.std.specs.Option.{option_and_then}
use Rattle.std.proofs.lemmas.List.{map-append}
use Rattle.std.proofs.lemmas.List.Elements.{filter_map-append}
use Rattle.std.proofs.lemmas.Option.{none-some, option_and_then_some}
use Rattle.std.proofs.lemmas.Simd.{map-map}
use Rattle.bb_base.specs.Form.{Form}
use Rattle.bb_bucket.specs.declared.block.Block.{Block}
use Rattle.bb_bucket.specs.BlockLaws.{block_of}
use Rattle.bb_bucket.specs.Kind.{BucketKind, part_of}
use Rattle.bb_circular.specs.declared.kept.Entry.{Entry}
use Rattle.bb_circular.specs.Circular.{circular_candidate, newest_of, readable, record_of}
use Rattle.bb_circular.specs.Pages.{page_at, written_pages}
use Rattle.bb_circular.specs.PagesLaws.{IsPaged, blank_behind, page_blank, written_inside}
use Rattle.bb_circular.proofs.Blank.{no_entry}
use Rattle.bb_circular.proofs.LogDevices.{part_paged}
use Rattle.bb_copies.specs.Passing.{passing_of}
use Rattle.bb_flash.specs.Image.{Image, IsImageOf}
use Rattle.bb_flash.specs.declared.geometry.Geometry.{Geometry}
use Rattle.bb_flash.specs.declared.region.Region.{Region}
use Rattle.bb_layout.specs.Convert.{convert}
use Rattle.bb_layout.specs.Copies.{region_of}
use Rattle.bb_layout.specs.Kept.{IsLaid}
use Rattle.bb_layout.specs.Layout.{Laid}
use Rattle.bb_layout.specs.declared.storage.Storage.{Storage}
use Rattle.bb_layout.specs.declared.storage.Storage.TheVariants as storages
use Rattle.bb_state.specs.Keyed.{Keyed}
use Rattle.bb_state.specs.Kinds.{any_holding, bucket_at, laid_buckets, laid_form, laid_passings, laid_regions, longest_len}
use Rattle.bb_state.specs.declared.any_bucket.AnyBucket.{AnyBucket}
use Rattle.bb_history.specs.Entries.{entry_area, entries_within, held_entries, entry_at, log_areas}
use Rattle.bb_history.specs.History.{IsRegionOf, kind_in, region_areas}
use Rattle.bb_history.specs.Newest.{HistoryEndsWith, HasAsLast, NewestIsLast}
use Rattle.bb_history.proofs.Regions.{made_at, made_there, regions_are}
use Rattle.bb_history.proofs.Walking.{entries_less, entries_more, entry_ends, entry_pages}

module _ (page size : ℕ) (block : Image) (paged : IsPaged page size block) where
  abbrev Written : ℕ
  Written = written_pages page block

  -- a blank page ends no entry
  blank_ends : (pages : ℕ) → 1 ≤ pages → Written ≤ pages - 1 → pages ≤ size / page →
      entry_at page block pages ≡ None
  blank_ends pages some behind inside =
      let k : ℕ = pages - 1 in
      let below : suc k ≤ size / page = omega arith in
      let blank = page_blank page size block paged k (omega arith)
      (blank_behind page size block paged k behind (omega arith)) in
      ap (option_and_then (readable page block)) (no_entry page pages (page_at page block k) (page, blank.clean))

  -- so the pages after the last that isn't blank add nothing
  written_entries : (extra pages : ℕ) → pages ≡ extra + Written → pages ≤ size / page →
      entries_within page block pages 0 ≡ entries_within page block Written 0
  written_entries zero pages is inside =
      let same : pages ≡ Written = omega arith in
      ap (λ k. entries_within page block k 0) same
  written_entries (suc extra) pages is inside =
      entries_less page block pages (omega arith) (blank_ends pages (omega arith) (omega arith) inside)
      ∙ written_entries extra (pages - 1) (omega arith) (omega arith)

  pub entries_written : held_entries page block ≡ entries_within page block Written 0
  entries_written =
      let inside = written_inside page size block paged in
      ap (λ n. entries_within page block (n / page) 0) paged.bytes
      ∙ written_entries (size / page - Written) (size / page) (omega arith) (omega arith)

  -- the area that the newest entry passes is the last
  module _ (form : Form) (area : List ℕ) where
    newest_passes : (newest : Option Entry) →
        option_and_then form.passes (option_map (record_of block) newest) ≡ Some area →
        (entry : Entry) × (newest ≡ Some entry) × (entry_area form block entry ≡ Some area)
    newest_passes None is = absurd (none-some area is)
    newest_passes (Some entry) is = (entry, refl, is)

    last_area : (pages : ℕ) (entry : Entry) → entry_at page block pages ≡ Some entry →
        entry_area form block entry ≡ Some area →
        HasAsLast (filter_map (entry_area form block) (entries_within page block pages 0)) area
    last_area pages entry is passes =
        let some : 1 ≤ page = omega (arith, paged.page_least) in
        let counted = entry_pages page pages (page_at page block (pages - 1)) entry some
        (entry_ends page block pages entry is) in
        let before = entries_within page block (entry.at / page) 0 in
        record {
          earlier = filter_map (entry_area form block) before;
          is =
              ap (filter_map (entry_area form block))
              (entries_more page block pages (entry.at / page) entry is counted.0 counted.1)
              ∙ filter_map-append (entry_area form block) before (entry ∷ [])
              ∙ ap (λ (o : Option (List ℕ)). filter_map (entry_area form block) before ++ cons_option o []) passes;
        }

    pub log_ends : option_and_then form.passes (circular_candidate page block) ≡ Some area →
        HasAsLast (log_areas form page block) area
    log_ends is =
        let found = newest_passes (newest_of page block) is in
        subst (λ (es : List Entry). HasAsLast (filter_map (entry_area form block) es) area)
        (sym entries_written) (last_area Written found.0 found.1 found.2)

-- ---- of all storages

one_ends : (passing : Option (List ℕ)) (area : List ℕ) → passing ≡ Some area →
    HasAsLast (option_to_list passing) area
one_ends passing area is =
    subst (λ (o : Option (List ℕ)). HasAsLast (option_to_list o) area) (sym is)
    (record { earlier = []; is = refl })

region_ends : (form : Form) (geometry : Geometry) (storage : Storage) (region : Region) (image : Image) (area : List ℕ) →
    IsRegionOf geometry storage region → IsImageOf geometry image →
    passing_of form geometry.page (kind_in storage geometry.page region) image ≡ Some area →
    HasAsLast (region_areas form storage geometry.page region image) area
region_ends form geometry (storages.Stride stride) region image area here whole passes =
    one_ends (passing_of form geometry.page (kind_in (storages.Stride stride) geometry.page region) image) area passes
region_ends form geometry storages.OneBlock region image area here whole passes =
    one_ends (passing_of form geometry.page (kind_in storages.OneBlock geometry.page region) image) area passes
region_ends form geometry storages.Circular region image area here whole passes =
    let block : Block = record { region = region; page = geometry.page } in
    log_ends geometry.page region.size (part_of geometry.page region image)
    (part_paged block geometry image (block_of block geometry here.serves) whole) form area passes

-- each area as the layout reads it
converted_ends : (layout : Laid) (areas : List (List ℕ)) (area : List ℕ) → HasAsLast areas area →
    HasAsLast (map (convert layout) areas) (convert layout area)
converted_ends layout areas area last = record {
  earlier = map (convert layout) last.earlier;
  is = ap (map (convert layout)) last.is ∙ map-append (convert layout) last.earlier (area ∷ []);
}

-- ---- of a layout's copies

-- a copy passes what its region does: the length of records that are written to it doesn't count
passing_there : (storage : Storage) (geometry : Geometry) (partition : Region) (len copy : ℕ) (form : Form) (image : Image) →
    passing_of form geometry.page (any_holding (bucket_at geometry storage partition len copy)).kind image
    ≡ passing_of form geometry.page (kind_in storage geometry.page (region_of geometry storage partition copy)) image
unfolding any_holding
passing_there (storages.Stride stride) geometry partition len copy form image = refl
passing_there storages.OneBlock geometry partition len copy form image = refl
passing_there storages.Circular geometry partition len copy form image = refl

module _ (keyed : Keyed) (image : Image) where
  abbrev Lay : Laid
  Lay = keyed.layout

  abbrev bucket_of : ℕ → AnyBucket
  bucket_of = bucket_at Lay.geometry Lay.storage Lay.region (longest_len Lay)

  abbrev place_of : ℕ → Region
  place_of = region_of Lay.geometry Lay.storage Lay.region

  abbrev passes_as : BucketKind → Option (List ℕ)
  passes_as kind = passing_of (laid_form keyed) Lay.geometry.page kind image

  abbrev passed_of : ℕ → Option (List ℕ)
  passed_of copy = passes_as (any_holding (bucket_of copy)).kind

  passings_are : laid_passings keyed image ≡ map passed_of (range_with_len 0 Lay.copies)
  passings_are =
      map-map passes_as (λ (b : AnyBucket). (any_holding b).kind) (laid_buckets Lay)
      ∙ map-map (λ (b : AnyBucket). passes_as (any_holding b).kind) bucket_of (range_with_len 0 Lay.copies)

  module _ (copy : ℕ) (area : List ℕ) (facts : IsLaid Lay) (whole : IsImageOf Lay.geometry image) where
    copy_ends : slice_get (laid_passings keyed image) copy ≡ Some (Some area) →
        HistoryEndsWith keyed image copy (convert Lay area)
    copy_ends is =
        let at = made_at passed_of Lay.copies copy (Some area) (subst (λ ps. slice_get ps copy ≡ Some (Some area)) passings_are is) in
        let region = place_of copy in
        let there : slice_get (laid_regions Lay) copy ≡ Some region = made_there place_of Lay.copies copy at.0 in
        let passes = sym (passing_there Lay.storage Lay.geometry Lay.region (longest_len Lay) copy (laid_form keyed) image) ∙ at.1 in
        record {
          region = region;
          region_is = there;
          last =
              converted_ends Lay (region_areas (laid_form keyed) Lay.storage Lay.geometry.page region image) area
              (region_ends (laid_form keyed) Lay.geometry Lay.storage region image area (regions_are Lay facts copy region there) whole passes);
        }

pub newest_last : NewestIsLast
newest_last keyed image copy area facts whole is =
    option_and_then_some (λ (passed : Option (List ℕ)). passed) (slice_get (laid_passings keyed image) copy) area is
    (λ passed there here. copy_ends keyed image copy area facts whole (there ∙ ap Some here))
