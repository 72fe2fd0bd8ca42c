-- One more call of a loop over a slot: what the calls so far make of it, and what a failed one
-- leaves.
use Rattle.std.proofs.Common.{◌≡◌, ℕ, ◌+◌, ◌-◌, ◌*◌, ◌/◌, ◌%◌, ◌<◌, ◌≤◌, ◌∙◌, min, List, [], ◌∷◌, ◌++◌, length, take, drop, take_all, replicate, Option, Some, None, ap, sym, subst, refl, arith, option_map, inl, inr}
use Rattle.std.specs.Int.{div_ceil}
use Rattle.std.specs.Option.{ForSome, is_some}
use Rattle.std.proofs.Math.Nat.{div-zero, mul-add-div_right, mul-div_cancel, mul-le-mul_right}
use Rattle.std.proofs.lemmas.List.{length-drop, length-replicate, length-take, length-take-le, replicate-append-replicate}
use Rattle.std.proofs.lemmas.List.FromFn.{map-range_with_len_more}
use Rattle.bb_flash.specs.declared.geometry.Geometry.{Geometry}
use Rattle.bb_flash.specs.declared.region.Region.{Region}
use Rattle.bb_flash.specs.Calls.{ChangesOnly, erased_bytes}
use Rattle.bb_flash.specs.Cuts.{IsLater, IsSameRegion}
use Rattle.bb_flash.specs.Device.{Device, Told, content, erases}
use Rattle.bb_flash.specs.Geometry.{IsGeometry}
use Rattle.bb_flash.specs.Image.{Image, IsBlank}
use Rattle.bb_flash.proofs.Geometries.{whole_times}
use Rattle.bb_bucket.specs.Calls.{Leaves}
use Rattle.bb_bucket.specs.Front.{put_at}
use Rattle.bb_bucket.specs.Kind.{LiesOn, part_of}
use Rattle.bb_bucket.proofs.Pages.{sum_aligned}
use Rattle.bb_bucket.proofs.Runs.{part_after, some_of}
use Rattle.bb_install.specs.Holding.{HasBytesAt, SlotHolds}
use Rattle.bb_install.specs.Parts.{EachBlank, PartFails, StopsPaging}
use Rattle.bb_install.specs.Ranges.{block_ranges, piece_ranges, slot_block, slot_piece}
use Rattle.bb_install.specs.Slot.{HasPlace}
use Rattle.bb_install.specs.Writing.{SlotWrites, StopsErasing, erases_of_slot}
use Rattle.bb_install.proofs.Blanking.{still_blank}
use Rattle.bb_install.proofs.Making.{split_at, stops_at, writes_as, writes_joined}
use Rattle.bb_install.proofs.Pieces.{next_piece, pieces_more, times_whole}
use Rattle.bb_install.proofs.Places.{none_or_some, slot_lies}
use Rattle.bb_install.proofs.Putting.{put_more}
use Rattle.bb_install.proofs.Standing.{IsKept, kept_before, put_holds, stands_blank, stands_kept}

-- ---- what a run left of the slot's front, after a call that failed behind it

content_told : (told : Option Told) (image : Image) → option_map (λ (t : Told). t.image) told ≡ Some image → (t : Told) × (told ≡ Some t) × (t.image ≡ image)
content_told None image e = absurd cc
content_told (Some t) image e = (t, refl, cc)

-- the image between, where the device tells the last
pub between : (two three : Device) (after : Image) → IsLater two three → content three ≡ Some after → (middle : Image) × (content two ≡ Some middle) × ((at n : ℕ) → IsKept at n two three → IsSameRegion two.geometry.page at n middle after)
between two three after later e =
    let last = content_told three.told after e in
    let there = some_of two.told (sym later.told ∙ ap is_some last.1) in
    let mid : Told = there.0 in (
      mid.image,
      ap (option_map (λ (t : Told). t.image)) there.1,
      λ at n kept. subst (λ (i : Image). IsSameRegion two.geometry.page at n mid.image i) last.2 (kept.same mid there.1 last.0 last.1),
    )

-- the slot's first bytes stand after a call that failed behind them
pub front_stands :
    (slot : Region) (text : List ℕ) (n at : ℕ) (bytes : List ℕ) (one two three : Device) (after : Image) →
    IsGeometry one.geometry → HasPlace one.geometry slot → length text ≤ slot.size → n ≤ length text →
    at ≡ slot.at + n → n % one.geometry.page ≡ 0 → length bytes % one.geometry.page ≡ 0 →
    IsLater one two → IsLater two three →
    Leaves slot (put_at one.geometry.page 0 text) one two → ChangesOnly at bytes two three →
    content three ≡ Some after → SlotHolds one.geometry.page slot (take n text) after
front_stands slot text n at bytes one two three after within place small fits is aligned whole early late leaves changes e =
    let geometry : Geometry = one.geometry in
    let page : ℕ = geometry.page in
    let lies : LiesOn geometry slot = slot_lies geometry slot within place in
    let same : two.geometry ≡ geometry = early.geometry in
    let page_is : two.geometry.page ≡ page = ap (λ (g : Geometry). g.page) same in
    let mid = between two three after late e in
    let first = part_after slot (put_at page 0 text) one two mid.0 early leaves mid.1 in
    let holds : SlotHolds page slot (take n text) mid.0 = put_holds geometry slot text n mid.0 (part_of page slot first.0) within.page_some lies small fits first.2 in
    let size : length (take n text) ≡ n = length-take-le n text fits in
    let begins : at % page ≡ 0 = ap (λ (a : ℕ). a % page) is ∙ sum_aligned page slot.at n lies.aligned aligned in
    let kept : IsKept slot.at (length (take n text)) two three =
    kept_before at bytes slot.at (length (take n text)) two three (omega (arith, within.page_some))
    (ap (λ p. at % p) page_is ∙ begins) (ap (λ p. length bytes % p) page_is ∙ whole) (omega arith) late changes in
    record {
      fits = holds.fits;
      stands =
          stands_kept page slot.at (take n text) mid.0 after
          (subst (λ (p : ℕ). IsSameRegion p slot.at (length (take n text)) mid.0 after) page_is (mid.2 slot.at (length (take n text)) kept))
          holds.stands;
    }

pub region_is : (a b m n : ℕ) → a ≡ b → m ≡ n → (let r : Region = record { at = a; size = m } in r) ≡ record { at = b; size = n }
region_is a b m n e f = ap (λ (at : ℕ). (let r : Region = record { at = at; size = m } in r)) e ∙ ap (λ (size : ℕ). (let r : Region = record { at = b; size = size } in r)) f

-- ---- erases

-- how far the first blocks of a slot reach
pub blocks_fit : (block size k : ℕ) → k < size / block → size % block ≡ 0 → k * block + block ≤ size
blocks_fit block size k inside whole =
    let times = whole_times size block whole in
    let order = mul-le-mul_right {m = k + 1} {n = size / block} block (omega arith) in
    omega (arith, next_piece k block)

-- a slot without blocks has none
pub block_some : (size block k : ℕ) → k < size / block → 0 < block
block_some size block k inside = elim (none_or_some block) [
  | inl none ↦ absurd (omega (arith, ap (λ b. size / b) none ∙ div-zero size))
  | inr some ↦ some
]

-- the number of a block of the slot
pub block_number : (at k block one other : ℕ) → one ≡ block → other ≡ block → 0 < block → (at + k * one) / other ≡ at / block + k
block_number at k block one other e f some =
    ap (λ b. (at + k * b) / other) e ∙ ap (λ b. (at + k * block) / b) f
    ∙ ap (λ n. n / block) (let sum : at + k * block ≡ k * block + at = omega arith in sum)
    ∙ mul-add-div_right some k at ∙ (let sum : k + at / block ≡ at / block + k = omega arith in sum)

pub erase_turn :
    (slot : Region) (k next at : ℕ) (one two three : Device) → IsGeometry one.geometry → 0 < one.geometry.block →
    at ≡ k * one.geometry.block → next ≡ k + 1 → IsLater one two →
    SlotWrites (block_ranges one.geometry.block slot k) slot (put_at one.geometry.page 0 (replicate (k * one.geometry.block) 255)) one two →
    SlotWrites (record { at = slot.at + at; size = two.geometry.block } ∷ []) slot (put_at two.geometry.page at (erased_bytes two.geometry)) two three →
    SlotWrites (block_ranges one.geometry.block slot next) slot (put_at one.geometry.page 0 (replicate (next * one.geometry.block) 255)) one three
erase_turn slot k next at one two three within some is more later early late =
    let geometry : Geometry = one.geometry in
    let page : ℕ = geometry.page in
    let block : ℕ = geometry.block in
    let xs : List ℕ = replicate (k * block) 255 in
    let ys : List ℕ = replicate block 255 in
    let size : length xs ≡ k * block = length-replicate {A = ℕ} (k * block) 255 in
    let whole : length xs % page ≡ 0 = ap (λ n. n % page) size ∙ times_whole k block page (within.blocks some).block_pages in
    let here : SlotWrites (slot_block block slot k ∷ []) slot (put_at page (k * block) ys) two three =
    subst (λ (a : ℕ). SlotWrites (record { at = slot.at + a; size = block } ∷ []) slot (put_at page a ys) two three) is
    (subst (λ (g : Geometry). SlotWrites (record { at = slot.at + at; size = g.block } ∷ []) slot (put_at g.page at (erased_bytes g)) two three) later.geometry late) in
    let same : (part : Image) → put_at page (k * block) ys (put_at page 0 xs part) ≡ put_at page 0 (replicate (next * block) 255) part = λ part.
    ap (λ a. put_at page a ys (put_at page 0 xs part)) (sym size)
    ∙ put_more page xs ys part within.page_some whole
    ∙ ap (λ zs. put_at page 0 zs part)
    (replicate-append-replicate (k * block) block 255
    ∙ ap (λ n. replicate n 255) (sym (next_piece k block) ∙ ap (λ n. n * block) (sym more))) in
    let listed : block_ranges block slot k ++ slot_block block slot k ∷ [] ≡ block_ranges block slot next =
    sym (map-range_with_len_more (slot_block block slot) 0 k k (omega arith)) ∙ ap (block_ranges block slot) (sym more) in
    writes_as _ _ slot (put_at page 0 (replicate (next * block) 255)) (put_at page 0 (replicate (next * block) 255)) one three listed (λ part. refl)
    (writes_joined (block_ranges block slot k) (slot_block block slot k ∷ []) slot (put_at page 0 xs) (put_at page (k * block) ys) (put_at page 0 (replicate (next * block) 255)) one two three later same early here)

pub erase_stops :
    (slot : Region) (k place : ℕ) (one two three : Device) → IsGeometry one.geometry → HasPlace one.geometry slot → 0 < one.geometry.block →
    k < slot.size / one.geometry.block → place ≡ slot.at + k * one.geometry.block → IsLater one two → IsLater two three →
    SlotWrites (block_ranges one.geometry.block slot k) slot (put_at one.geometry.page 0 (replicate (k * one.geometry.block) 255)) one two →
    erases two ≡ option_map (erases_of_slot one.geometry slot k) (erases one) →
    PartFails place (erased_bytes two.geometry) two three → StopsErasing slot place one three
erase_stops slot k place one two three within has some inside is early late writes counted fails =
    let geometry : Geometry = one.geometry in
    let block : ℕ = geometry.block in
    let all : List Region = block_ranges block slot (slot.size / block) in
    let n : ℕ = k * block in
    let size : length {A = ℕ} (replicate n 255) ≡ n = length-replicate {A = ℕ} n 255 in
    let block_is : two.geometry.block ≡ block = ap (λ (g : Geometry). g.block) early.geometry in
    let bytes : length (erased_bytes two.geometry) ≡ block = length-replicate {A = ℕ} two.geometry.block 255 ∙ block_is in
    let pages = (within.blocks some).block_pages in
    let fits = blocks_fit block slot.size k inside (has.aligned.size some) in
    let gone : place - slot.at ≡ n = omega arith in
    record {
      calls =
          stops_at all (block_ranges block slot k) (drop (k + 1) all) (slot_block block slot k) place (erased_bytes two.geometry) one two three
          (split_at (slot_block block slot) (slot.size / block) k inside)
          (region_is (slot.at + n) place block (length (erased_bytes two.geometry)) (sym is) (sym bytes)) early writes.made fails.changes;
      blank = λ after e.
          (let holds = front_stands slot (replicate n 255) n place (erased_bytes two.geometry) one two three after within has (omega arith) (omega arith) is (times_whole k block geometry.page pages) (ap (λ m. m % geometry.page) bytes ∙ pages) early late writes.leaves fails.changes e in
          subst (λ (m : ℕ). IsBlank geometry.page after slot.at m) (sym gone)
          (stands_blank geometry.page slot.at n after
          (subst (λ (xs : List ℕ). HasBytesAt geometry.page after slot.at xs) (take_all n (replicate n 255) (omega arith)) holds.stands)));
      erases = fails.erases ∙ counted ∙ ap (λ m. option_map (erases_of_slot geometry slot m) (erases one)) (sym (ap (λ m. m / block) gone ∙ mul-div_cancel k some));
    }

-- ---- programs

pub program_turn :
    (slot : Region) (pages : List ℕ) (len k next at : ℕ) (one two three : Device) → IsGeometry one.geometry → len % one.geometry.page ≡ 0 →
    at ≡ k * len → k * len ≤ length pages → next ≡ k + 1 → IsLater one two →
    SlotWrites (piece_ranges len (length pages) slot k) slot (put_at one.geometry.page 0 (take (k * len) pages)) one two →
    SlotWrites (record { at = slot.at + at; size = length (take len (drop (k * len) pages)) } ∷ []) slot (put_at two.geometry.page at (take len (drop (k * len) pages))) two three →
    SlotWrites (piece_ranges len (length pages) slot next) slot (put_at one.geometry.page 0 (take (next * len) pages)) one three
program_turn slot pages len k next at one two three within paged is fits more later early late =
    let geometry : Geometry = one.geometry in
    let page : ℕ = geometry.page in
    let all : ℕ = length pages in
    let xs : List ℕ = take (k * len) pages in
    let ys : List ℕ = take len (drop (k * len) pages) in
    let size : length xs ≡ k * len = length-take-le (k * len) pages fits in
    let whole : length xs % page ≡ 0 = ap (λ n. n % page) size ∙ times_whole k len page paged in
    let count : length ys ≡ min len (all - k * len) = length-take len (drop (k * len) pages) ∙ ap (min len) (length-drop (k * len) pages) in
    let here : SlotWrites (slot_piece len all slot k ∷ []) slot (put_at page (k * len) ys) two three =
    subst (λ (n : ℕ). SlotWrites (record { at = slot.at + k * len; size = n } ∷ []) slot (put_at page (k * len) ys) two three) count
    (subst (λ (a : ℕ). SlotWrites (record { at = slot.at + a; size = length ys } ∷ []) slot (put_at page a ys) two three) is
    (subst (λ (g : Geometry). SlotWrites (record { at = slot.at + at; size = length ys } ∷ []) slot (put_at g.page at ys) two three) later.geometry late)) in
    let same : (part : Image) → put_at page (k * len) ys (put_at page 0 xs part) ≡ put_at page 0 (take (next * len) pages) part = λ part.
    ap (λ a. put_at page a ys (put_at page 0 xs part)) (sym size)
    ∙ put_more page xs ys part within.page_some whole
    ∙ ap (λ zs. put_at page 0 zs part) (pieces_more pages k len ∙ ap (λ n. take (n * len) pages) (sym more)) in
    let listed : piece_ranges len all slot k ++ slot_piece len all slot k ∷ [] ≡ piece_ranges len all slot next =
    sym (map-range_with_len_more (slot_piece len all slot) 0 k k (omega arith)) ∙ ap (piece_ranges len all slot) (sym more) in
    writes_as _ _ slot (put_at page 0 (take (next * len) pages)) (put_at page 0 (take (next * len) pages)) one three listed (λ part. refl)
    (writes_joined (piece_ranges len all slot k) (slot_piece len all slot k ∷ []) slot (put_at page 0 xs) (put_at page (k * len) ys) (put_at page 0 (take (next * len) pages)) one two three later same early here)

pub program_stops :
    (slot : Region) (pages : List ℕ) (len k place : ℕ) (one two three : Device) → IsGeometry one.geometry → HasPlace one.geometry slot →
    len % one.geometry.page ≡ 0 → length pages % one.geometry.page ≡ 0 → length pages ≤ slot.size →
    k < div_ceil (length pages) len → k * len ≤ length pages → place ≡ slot.at + k * len → IsLater one two → IsLater two three →
    SlotWrites (piece_ranges len (length pages) slot k) slot (put_at one.geometry.page 0 (take (k * len) pages)) one two →
    length (take len (drop (k * len) pages)) % one.geometry.page ≡ 0 →
    PartFails place (take len (drop (k * len) pages)) two three → StopsPaging len slot pages place one three
program_stops slot pages len k place one two three within has paged whole small inside fits is early late writes every fails =
    let geometry : Geometry = one.geometry in
    let all : ℕ = length pages in
    let ranges : List Region = piece_ranges len all slot (div_ceil all len) in
    let n : ℕ = k * len in
    let ys : List ℕ = take len (drop n pages) in
    let count : length ys ≡ min len (all - n) = length-take len (drop n pages) ∙ ap (min len) (length-drop n pages) in
    let size : length (take n pages) ≡ n = length-take-le n pages fits in
    let gone : place - slot.at ≡ n = omega arith in
    record {
      calls =
          stops_at ranges (piece_ranges len all slot k) (drop (k + 1) ranges) (slot_piece len all slot k) place ys one two three
          (split_at (slot_piece len all slot) (div_ceil all len) k inside)
          (region_is (slot.at + n) place (min len (all - n)) (length ys) (sym is) (sym count)) early writes.made fails.changes;
      inside = omega arith;
      begun = λ after e.
          (let holds = front_stands slot (take n pages) n place ys one two three after within has (omega arith) (omega arith) is (times_whole k len geometry.page paged) every early late writes.leaves fails.changes e in
          subst (λ (m : ℕ). SlotHolds geometry.page slot (take m pages) after) (sym gone)
          (subst (λ (xs : List ℕ). SlotHolds geometry.page slot xs after) (take_all n (take n pages) (omega arith)) holds));
    }

-- what is programmed next is blank, where the slot was
pub piece_blank :
    (slot : Region) (xs : List ℕ) (at n : ℕ) (one two : Device) (image : Image) → IsGeometry one.geometry → IsLater one two →
    Leaves slot (put_at one.geometry.page 0 xs) one two → length xs % one.geometry.page ≡ 0 → length xs ≤ at → at + n ≤ slot.size →
    (0 < one.geometry.block → ForSome (content one) (λ before. EachBlank one.geometry.page slot.size (part_of one.geometry.page slot before))) →
    0 < two.geometry.block → content two ≡ Some image → IsBlank two.geometry.page (part_of two.geometry.page slot image) at n
piece_blank slot xs at n one two image within later leaves whole past fits blank some told =
    let page : ℕ = one.geometry.page in
    let page_is : two.geometry.page ≡ page = ap (λ (g : Geometry). g.page) later.geometry in
    let block_is : two.geometry.block ≡ one.geometry.block = ap (λ (g : Geometry). g.block) later.geometry in
    let first = part_after slot (put_at page 0 xs) one two image later leaves told in
    subst (λ (p : ℕ). IsBlank p (part_of p slot image) at n) (sym page_is)
    (still_blank page slot.size at n xs (part_of page slot first.0) (part_of page slot image) within.page_some whole past fits first.2
    (blank (omega arith) first.0 first.1))
