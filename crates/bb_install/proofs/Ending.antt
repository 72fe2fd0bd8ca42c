-- How a write of an image to a slot ends.
use Rattle.std.proofs.Common.{◌≡◌, ℕ, ◌+◌, ◌-◌, ◌*◌, ◌/◌, ◌%◌, ◌<◌, ◌≤◌, ◌==◌, ◌∙◌, Bool, true, false, cond, List, [], ◌∷◌, ◌++◌, length, take, drop, take_all, replicate, Result, Ok, Err, IfErr, ap, sym, subst, refl, arith, inl, inr, option_map, append_assoc, length-append, length-drop}
use Rattle.std.proofs.Math.Nat.{add-mul, div-add-mod', lt_of_mul-lt-mul_right, mod-one, mod-lt, mod_self, mul-le-mul_right, mul-mod_left}
use Rattle.std.proofs.Math.Seq.{take-append_seam}
use Rattle.std.proofs.lemmas.Bool.Decides.{nat_tests}
use Rattle.std.proofs.lemmas.List.{append-nil, length-replicate, length-take-le, take-append-drop, take-take}
use Rattle.std.specs.Int.{div_ceil}
use Rattle.bb_flash.specs.declared.geometry.Geometry.{Geometry}
use Rattle.bb_flash.specs.declared.region.Region.{Region}
use Rattle.bb_flash.specs.Cuts.{IsLater}
use Rattle.bb_flash.specs.Device.{Device, erases}
use Rattle.bb_flash.specs.Geometry.{IsGeometry}
use Rattle.bb_flash.specs.Image.{Image}
use Rattle.bb_flash.proofs.Geometries.{whole_times}
use Rattle.bb_flash.proofs.Moments.{later_joined}
use Rattle.bb_bucket.proofs.Pages.{sum_aligned}
use Rattle.bb_bucket.specs.Blocks.{filled_to}
use Rattle.bb_bucket.specs.Front.{put_at}
use Rattle.bb_install.specs.Holding.{SlotHolds}
use Rattle.bb_install.specs.Parts.{PartFails, StopsPaging}
use Rattle.bb_install.specs.Ranges.{block_ranges, last_range, paged_len, piece_ranges, program_len, slot_ranges}
use Rattle.bb_install.specs.Slot.{HasPlace}
use Rattle.bb_install.specs.Writing.{IsInstalled, SlotWrites, StopsProgramming, erases_of_slot, slot_text}
use Rattle.bb_install.proofs.Installing.{filled_size, installed, last_none, last_some, not_zero, over_blocks, over_whole}
use Rattle.bb_install.proofs.Making.{leaves_as, stops_among_more, stops_at, writes_as, writes_joined}
use Rattle.bb_install.proofs.Places.{none_or_some, slot_lies}
use Rattle.bb_install.proofs.Putting.{put_more, put_over}
use Rattle.bb_install.proofs.Turns.{front_stands, region_is}

-- ---- the whole pages of an image

pub paged_is : (page len : ℕ) → paged_len page len ≡ len / page * page
paged_is page len = omega (arith, div-add-mod' len page)

pub paged_whole : (page len : ℕ) → paged_len page len % page ≡ 0
paged_whole page len = ap (λ n. n % page) (paged_is page len) ∙ mul-mod_left (len / page) page

blocks_at_once : (geometry : Geometry) → 0 < geometry.block → program_len geometry ≡ geometry.block
blocks_at_once geometry some = ap (λ (b : Bool). cond b 65536 geometry.block) (not_zero geometry.block some)

-- a device of whole pages is programmed in whole pages
pub program_len_paged : (geometry : Geometry) → IsGeometry geometry → program_len geometry % geometry.page ≡ 0
program_len_paged geometry within = elim (none_or_some geometry.block) [
  | inl none ↦ ap (λ p. program_len geometry % p) (within.in_place none) ∙ mod-one (program_len geometry)
  | inr some ↦ ap (λ n. n % geometry.page) (blocks_at_once geometry some) ∙ (within.blocks some).block_pages
]

pub program_len_some : (geometry : Geometry) → 0 < program_len geometry
program_len_some geometry = elim (none_or_some geometry.block) [
  | inl none ↦ (let is : program_len geometry ≡ 65536 = ap (λ (b : ℕ). cond (b == 0) 65536 b) none in omega arith)
  | inr some ↦ omega (arith, blocks_at_once geometry some)
]

-- only a device with blocks has pages that are filled in part
pub blocks_of_rest : (geometry : Geometry) (len : ℕ) → IsGeometry geometry → 0 < len % geometry.page → 0 < geometry.block
blocks_of_rest geometry len within rest = elim (none_or_some geometry.block) [
  | inl none ↦ absurd (omega (arith, ap (λ p. len % p) (within.in_place none) ∙ mod-one len))
  | inr some ↦ some
]

-- whole pages that end before the end of whole pages are followed by one more
whole_fits : (page n size : ℕ) → 0 < page → n % page ≡ 0 → size % page ≡ 0 → n < size → n + page ≤ size
whole_fits page n size some first whole inside =
    let a = whole_times n page first in
    let b = whole_times size page whole in
    let order : n / page < size / page = lt_of_mul-lt-mul_right page (omega arith) in
    let times = mul-le-mul_right {m = n / page + 1} {n = size / page} page (omega arith) in
    omega (arith, add-mul (n / page) 1 page)

blanks_len : (geometry : Geometry) (slot : Region) → HasPlace geometry slot → 0 < geometry.block → length {A = ℕ} (replicate (slot.size / geometry.block * geometry.block) 255) ≡ slot.size
blanks_len geometry slot has some = length-replicate {A = ℕ} (slot.size / geometry.block * geometry.block) 255 ∙ whole_times slot.size geometry.block (has.aligned.size some)

-- ---- what was made so far

-- the blocks were erased, and whole pages programmed
abbrev pub ErasedIn : Region → Device → Device → Type 0
ErasedIn slot from to =
    let geometry = from.geometry in
    let count = slot.size / geometry.block in
    SlotWrites (block_ranges geometry.block slot count) slot (put_at geometry.page 0 (replicate (count * geometry.block) 255)) from to

abbrev pub PagedIn : Geometry → Region → List ℕ → Device → Device → Type 0
PagedIn geometry slot pages from to =
    SlotWrites (piece_ranges (program_len geometry) (length pages) slot (div_ceil (length pages) (program_len geometry))) slot (put_at from.geometry.page 0 pages) from to

-- an image in whole pages
pub ends_whole :
    (slot : Region) (image pages : List ℕ) (one two three : Device) → IsGeometry one.geometry → HasPlace one.geometry slot → length image ≤ slot.size →
    length image % one.geometry.page ≡ 0 → pages ≡ take (paged_len one.geometry.page (length image)) image → IsLater one two → IsLater two three →
    ErasedIn slot one two → PagedIn one.geometry slot pages two three →
    erases three ≡ option_map (erases_of_slot one.geometry slot (slot.size / one.geometry.block)) (erases one) →
    IsInstalled slot image one three
ends_whole slot image pages one two three within has fits whole is early late erased paged counted =
    let geometry : Geometry = one.geometry in
    let page : ℕ = geometry.page in
    let n : ℕ = length image in
    let len : ℕ = program_len geometry in
    let blank : List ℕ = replicate (slot.size / geometry.block * geometry.block) 255 in
    let all : paged_len page n ≡ n = omega (arith, whole) in
    let same : pages ≡ image = is ∙ ap (λ k. take k image) all ∙ take_all n image (omega arith) in
    let size : length pages ≡ paged_len page n = ap (length {A = ℕ}) same ∙ sym all in
    let here : SlotWrites (piece_ranges len (paged_len page n) slot (div_ceil (paged_len page n) len)) slot (put_at page 0 image) two three =
    subst (λ (k : ℕ). SlotWrites (piece_ranges len k slot (div_ceil k len)) slot (put_at page 0 image) two three) size
    (subst (λ (xs : List ℕ). SlotWrites (piece_ranges len (length pages) slot (div_ceil (length pages) len)) slot (put_at page 0 xs) two three) same
    (subst (λ (g : Geometry). SlotWrites (piece_ranges len (length pages) slot (div_ceil (length pages) len)) slot (put_at g.page 0 pages) two three) early.geometry paged)) in
    let ranges : List Region = piece_ranges len (paged_len page n) slot (div_ceil (paged_len page n) len) in
    let listed : ranges ≡ ranges ++ last_range page slot n = sym (append-nil ranges) ∙ ap (λ rs. ranges ++ rs) (sym (last_none page slot n whole)) in
    installed slot image one three within has fits (later_joined one two three early late)
    (writes_joined (block_ranges geometry.block slot (slot.size / geometry.block)) (ranges ++ last_range page slot n) slot (put_at page 0 blank) (put_at page 0 image) (put_at page 0 (slot_text geometry slot image)) one two three early
    (λ part. over_whole geometry slot image part within has fits whole) erased
    (writes_as ranges (ranges ++ last_range page slot n) slot (put_at page 0 image) (put_at page 0 image) two three listed (λ part. refl) here))
    counted

-- ---- the whole pages, and the last one by itself

abbrev blanks : Geometry → Region → List ℕ
blanks geometry slot = replicate (slot.size / geometry.block * geometry.block) 255

abbrev paged_ranges : Geometry → Region → ℕ → List Region
paged_ranges geometry slot len =
    let all = paged_len geometry.page len in
    piece_ranges (program_len geometry) all slot (div_ceil all (program_len geometry))

-- an image of which some bytes are left after its whole pages
pub record HasRest (geometry : Geometry) (slot : Region) (image pages rest : List ℕ) : Type 0 where
  pub within : IsGeometry geometry
  pub has : HasPlace geometry slot
  pub fits : length image ≤ slot.size
  pub more : 0 < length rest
  pub pages_are : pages ≡ take (paged_len geometry.page (length image)) image
  pub rest_is : rest ≡ drop (paged_len geometry.page (length image)) image

module _ (geometry : Geometry) (slot : Region) (image pages rest : List ℕ) (left : HasRest geometry slot image pages rest) where
  pub rest_len : length rest ≡ length image % geometry.page
  rest_len = (let size = ap (length {A = ℕ}) left.rest_is ∙ length-drop (paged_len geometry.page (length image)) image in omega (arith, div-add-mod' (length image) geometry.page))

  pub pages_len : length pages ≡ paged_len geometry.page (length image)
  pages_len = ap (length {A = ℕ}) left.pages_are ∙ length-take-le (paged_len geometry.page (length image)) image (omega arith)

  pub pages_paged : length pages % geometry.page ≡ 0
  pages_paged = ap (λ n. n % geometry.page) pages_len ∙ paged_whole geometry.page (length image)

  pub image_is : pages ++ rest ≡ image
  image_is = ap (λ xs. xs ++ rest) left.pages_are ∙ ap (λ ys. take (paged_len geometry.page (length image)) image ++ ys) left.rest_is ∙ take-append-drop (paged_len geometry.page (length image)) image

  -- the last page ends in the slot
  pub last_fits : length pages + geometry.page ≤ slot.size
  last_fits =
      let size = length-append pages rest in
      let all = ap (length {A = ℕ}) image_is in
      whole_fits geometry.page (length pages) slot.size left.within.page_some pages_paged (slot_lies geometry slot left.within left.has).whole (omega (arith, left.more, left.fits))

  pub rest_small : length rest < geometry.page
  rest_small = omega (arith, rest_len, mod-lt (length image) left.within.page_some)

  pub blocks : 0 < geometry.block
  blocks = blocks_of_rest geometry (length image) left.within (omega (arith, rest_len, left.more))

  -- the image, filled up to whole pages
  pub filled_is : pages ++ filled_to geometry.page rest ≡ filled_to (length pages + geometry.page) image
  filled_is =
      let size = length-append pages rest in
      let all = ap (length {A = ℕ}) image_is in
      let filling : geometry.page - length rest ≡ length pages + geometry.page - length image = omega arith in
      sym (append_assoc pages rest (replicate (geometry.page - length rest) 255))
      ∙ ap (λ xs. xs ++ replicate (geometry.page - length rest) 255) image_is
      ∙ ap (λ k. image ++ replicate k 255) filling

  -- the last page over what was written so far
  pub over_all : (part : Image) → put_at geometry.page (length pages) (filled_to geometry.page rest) (put_at geometry.page 0 pages (put_at geometry.page 0 (blanks geometry slot) part)) ≡ put_at geometry.page 0 (slot_text geometry slot image) part
  over_all part =
      let page : ℕ = geometry.page in
      let size = length-append pages rest in
      let all = ap (length {A = ℕ}) image_is in
      put_more page pages (filled_to page rest) (put_at page 0 (blanks geometry slot) part) left.within.page_some pages_paged
      ∙ ap (λ xs. put_at page 0 xs (put_at page 0 (blanks geometry slot) part)) filled_is
      ∙ over_blocks geometry slot image (length pages + page) part left.within left.has blocks (omega (arith, rest_small)) last_fits (sum_aligned page (length pages) page pages_paged (mod_self page))

  -- the whole pages over the erased slot
  pub over_pages : (part : Image) → put_at geometry.page 0 pages (put_at geometry.page 0 (blanks geometry slot) part) ≡ put_at geometry.page 0 (pages ++ drop (length pages) (blanks geometry slot)) part
  over_pages part =
      let page : ℕ = geometry.page in
      let lies = slot_lies geometry slot left.within left.has in
      let whole : length (blanks geometry slot) ≡ slot.size = blanks_len geometry slot left.has blocks in
      put_over page pages (blanks geometry slot) part left.within.page_some (omega (arith, last_fits)) pages_paged (ap (λ n. n % page) whole ∙ lies.whole)

  pub listed : slot_ranges geometry slot (length image) ≡ (block_ranges geometry.block slot (slot.size / geometry.block) ++ paged_ranges geometry slot (length image)) ++ (record { at = slot.at + length pages; size = geometry.page } ∷ [])
  listed =
      let erasing = block_ranges geometry.block slot (slot.size / geometry.block) in
      let paging = paged_ranges geometry slot (length image) in
      let rest_more : 0 < length image % geometry.page = omega (arith, rest_len, left.more) in
      ap (λ rs. erasing ++ (paging ++ rs)) (last_some geometry.page slot (length image) rest_more)
      ∙ ap (λ k. erasing ++ (paging ++ (record { at = slot.at + k; size = geometry.page } ∷ []))) (sym pages_len)
      ∙ sym (append_assoc erasing paging (record { at = slot.at + length pages; size = geometry.page } ∷ []))

-- what was made up to the last page
pub paged_writes :
    (slot : Region) (image pages rest : List ℕ) (one two three : Device) → HasRest one.geometry slot image pages rest → IsLater one two →
    ErasedIn slot one two → PagedIn one.geometry slot pages two three →
    SlotWrites (block_ranges one.geometry.block slot (slot.size / one.geometry.block) ++ paged_ranges one.geometry slot (length image)) slot
    (λ part. put_at one.geometry.page 0 pages (put_at one.geometry.page 0 (blanks one.geometry slot) part)) one three
paged_writes slot image pages rest one two three left early erased paged =
    let geometry : Geometry = one.geometry in
    let page : ℕ = geometry.page in
    let len : ℕ = program_len geometry in
    let here : SlotWrites (paged_ranges geometry slot (length image)) slot (put_at page 0 pages) two three =
    subst (λ (k : ℕ). SlotWrites (piece_ranges len k slot (div_ceil k len)) slot (put_at page 0 pages) two three) (pages_len geometry slot image pages rest left)
    (subst (λ (g : Geometry). SlotWrites (piece_ranges len (length pages) slot (div_ceil (length pages) len)) slot (put_at g.page 0 pages) two three) early.geometry paged) in
    writes_joined (block_ranges geometry.block slot (slot.size / geometry.block)) (paged_ranges geometry slot (length image)) slot (put_at page 0 (blanks geometry slot)) (put_at page 0 pages)
    (λ part. put_at page 0 pages (put_at page 0 (blanks geometry slot) part)) one two three early (λ part. refl) erased here

pub ends_part :
    (slot : Region) (image pages rest : List ℕ) (one two three four : Device) → HasRest one.geometry slot image pages rest → IsLater one two → IsLater two three → IsLater three four →
    ErasedIn slot one two → PagedIn one.geometry slot pages two three →
    SlotWrites (record { at = slot.at + length pages; size = one.geometry.page } ∷ []) slot (put_at three.geometry.page (length pages) (filled_to one.geometry.page rest)) three four →
    erases four ≡ option_map (erases_of_slot one.geometry slot (slot.size / one.geometry.block)) (erases one) →
    IsInstalled slot image one four
ends_part slot image pages rest one two three four left early late last erased paged tail counted =
    let geometry : Geometry = one.geometry in
    let page : ℕ = geometry.page in
    let to_three = later_joined one two three early late in
    let range : List Region = record { at = slot.at + length pages; size = page } ∷ [] in
    let here : SlotWrites range slot (put_at page (length pages) (filled_to page rest)) three four =
    subst (λ (g : Geometry). SlotWrites range slot (put_at g.page (length pages) (filled_to page rest)) three four) to_three.geometry tail in
    let before = block_ranges geometry.block slot (slot.size / geometry.block) ++ paged_ranges geometry slot (length image) in
    let text = put_at page 0 (slot_text geometry slot image) in
    installed slot image one four left.within left.has left.fits (later_joined one three four to_three last)
    (writes_as (before ++ range) (slot_ranges geometry slot (length image)) slot text text one four
    (sym (listed geometry slot image pages rest left)) (λ part. refl)
    (writes_joined before range slot (λ part. put_at page 0 pages (put_at page 0 (blanks geometry slot) part)) (put_at page (length pages) (filled_to page rest)) text one three four to_three
    (over_all geometry slot image pages rest left) (paged_writes slot image pages rest one two three left early erased paged) here))
    counted

-- the last page failed
pub rest_stops :
    (slot : Region) (image pages rest : List ℕ) (place : ℕ) (one two three four : Device) → HasRest one.geometry slot image pages rest → IsLater one two → IsLater two three → IsLater three four →
    ErasedIn slot one two → PagedIn one.geometry slot pages two three → place ≡ slot.at + length pages →
    PartFails place (filled_to one.geometry.page rest) three four →
    erases three ≡ option_map (erases_of_slot one.geometry slot (slot.size / one.geometry.block)) (erases one) →
    StopsProgramming slot image place one four
rest_stops slot image pages rest place one two three four left early late last erased paged is fails counted =
    let geometry : Geometry = one.geometry in
    let page : ℕ = geometry.page in
    let to_three = later_joined one two three early late in
    let writes = paged_writes slot image pages rest one two three left early erased paged in
    let bytes : List ℕ = filled_to page rest in
    let size : length bytes ≡ page = filled_size page rest (omega (arith, rest_small geometry slot image pages rest left)) in
    let before = block_ranges geometry.block slot (slot.size / geometry.block) ++ paged_ranges geometry slot (length image) in
    let text : List ℕ = pages ++ drop (length pages) (blanks geometry slot) in
    let blank_len = blanks_len geometry slot left.has (blocks geometry slot image pages rest left) in
    let text_len = length-append pages (drop (length pages) (blanks geometry slot)) in
    let tail_len = length-drop (length pages) (blanks geometry slot) in
    let ends = last_fits geometry slot image pages rest left in
    let pages_are : take (length pages) text ≡ take (place - slot.at) image =
    take-append_seam pages (drop (length pages) (blanks geometry slot))
    ∙ left.pages_are ∙ ap (λ n. take n image) (let gone : paged_len page (length image) ≡ place - slot.at = omega (arith, pages_len geometry slot image pages rest left) in gone) in
    record {
      calls =
          stops_at (slot_ranges geometry slot (length image)) before [] (record { at = slot.at + length pages; size = page }) place bytes one three four
          (listed geometry slot image pages rest left)
          (region_is (slot.at + length pages) place page (length bytes) (sym is) (sym size)) to_three writes.made fails.changes;
      begun = λ after e.
          subst (λ (xs : List ℕ). SlotHolds page slot xs after) pages_are
          (front_stands slot text (length pages) place bytes one three four after left.within left.has (omega arith) (omega arith) is
          (pages_paged geometry slot image pages rest left) (ap (λ n. n % page) size ∙ mod_self page) to_three last
          (leaves_as slot _ (put_at page 0 text) one three (over_pages geometry slot image pages rest left) writes.leaves) fails.changes e);
      erases = fails.erases ∙ counted;
    }

-- a piece of the whole pages failed
pub pages_stop :
    (slot : Region) (image pages : List ℕ) (place : ℕ) (one two three : Device) →
    pages ≡ take (paged_len one.geometry.page (length image)) image → IsLater one two → ErasedIn slot one two →
    StopsPaging (program_len one.geometry) slot pages place two three → erases three ≡ erases two →
    erases two ≡ option_map (erases_of_slot one.geometry slot (slot.size / one.geometry.block)) (erases one) →
    StopsProgramming slot image place one three
pages_stop slot image pages place one two three is early erased stops kept counted =
    let geometry : Geometry = one.geometry in
    let page : ℕ = geometry.page in
    let n : ℕ = length image in
    let len : ℕ = program_len geometry in
    let size : length pages ≡ paged_len page n = ap (length {A = ℕ}) is ∙ length-take-le (paged_len page n) image (omega arith) in
    let ranges : List Region = piece_ranges len (length pages) slot (div_ceil (length pages) len) in
    let listed_so : slot_ranges geometry slot n ≡ block_ranges geometry.block slot (slot.size / geometry.block) ++ (ranges ++ last_range page slot n) =
    ap (λ (k : ℕ). block_ranges geometry.block slot (slot.size / geometry.block) ++ (piece_ranges len k slot (div_ceil k len) ++ last_range page slot n)) (sym size) in
    let front : take (place - slot.at) pages ≡ take (place - slot.at) image =
    ap (take (place - slot.at)) is ∙ take-take (place - slot.at) (paged_len page n) image (omega (arith, stops.inside)) in
    record {
      calls = stops_among_more (block_ranges geometry.block slot (slot.size / geometry.block)) ranges (last_range page slot n) (slot_ranges geometry slot n) place one two three listed_so early erased.made stops.calls;
      begun = λ after e.
          subst (λ (p : ℕ). SlotHolds p slot (take (place - slot.at) image) after) (ap (λ (g : Geometry). g.page) early.geometry)
          (subst (λ (xs : List ℕ). SlotHolds two.geometry.page slot xs after) front (stops.begun after e));
      erases = kept ∙ counted;
    }

-- ---- the code's own words

pub split_paged : (page : ℕ) (image pages : List ℕ) → pages ≡ take (paged_len page (length image)) image → length pages % page ≡ 0
split_paged page image pages is =
    ap (λ n. n % page) (ap (length {A = ℕ}) is ∙ length-take-le (paged_len page (length image)) image (omega arith)) ∙ paged_whole page (length image)

split_rest : (page : ℕ) (image rest : List ℕ) → rest ≡ drop (paged_len page (length image)) image → length rest ≡ length image % page
split_rest page image rest is = (let size = ap (length {A = ℕ}) is ∙ length-drop (paged_len page (length image)) image in omega (arith, div-add-mod' (length image) page))

pub rest_none : (page : ℕ) (image rest : List ℕ) → rest ≡ drop (paged_len page (length image)) image → (length rest == 0) ≡ true → length image % page ≡ 0
rest_none page image rest is none = (let size = split_rest page image rest is in let zero_len : length rest ≡ 0 = grind (arith, nat_tests) in omega arith)

pub rest_some : (rest : List ℕ) → (length rest == 0) ≡ false → 0 < length rest
rest_some rest some = grind (arith, nat_tests)

pub paged_as : (geometry : Geometry) (slot : Region) (pages : List ℕ) (len : ℕ) (from to : Device) → len ≡ program_len geometry → SlotWrites (piece_ranges len (length pages) slot (div_ceil (length pages) len)) slot (put_at from.geometry.page 0 pages) from to → PagedIn geometry slot pages from to
paged_as geometry slot pages len from to is writes = subst (λ (n : ℕ). SlotWrites (piece_ranges n (length pages) slot (div_ceil (length pages) n)) slot (put_at from.geometry.page 0 pages) from to) is writes

-- the last page, filled up
pub tail_as : (slot : Region) (at page : ℕ) (rest filled : List ℕ) (from to : Device) → filled ≡ filled_to page rest → length rest ≤ page → SlotWrites (record { at = slot.at + at; size = length filled } ∷ []) slot (put_at from.geometry.page at filled) from to → SlotWrites (record { at = slot.at + at; size = page } ∷ []) slot (put_at from.geometry.page at (filled_to page rest)) from to
tail_as slot at page rest filled from to is fits writes =
    subst (λ (n : ℕ). SlotWrites (record { at = slot.at + at; size = n } ∷ []) slot (put_at from.geometry.page at (filled_to page rest)) from to) (filled_size page rest fits)
    (subst (λ (xs : List ℕ). SlotWrites (record { at = slot.at + at; size = length xs } ∷ []) slot (put_at from.geometry.page at xs) from to) is writes)

pub err_both : {T E : Type 0} (P Q R : E → Type 0) (result : Result T E) → ((e : E) → P e → Q e → R e) → IfErr result P → IfErr result Q → IfErr result R
err_both P Q R (Ok x) both p q = tt
err_both P Q R (Err e) both p q = both e p q
