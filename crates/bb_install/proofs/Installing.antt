-- All calls that write an image to a slot, joined.
use Rattle.std.proofs.Common.{◌≡◌, ℕ, ◌+◌, ◌-◌, ◌*◌, ◌/◌, ◌%◌, ◌<◌, ◌≤◌, ◌==◌, ◌∙◌, Bool, false, cond, List, [], ◌∷◌, ◌++◌, length, take, drop, take_all, replicate, ap, sym, subst, arith, inl, inr, option_map, append_assoc, length-append}
use Rattle.std.proofs.Math.Nat.{mul-zero}
use Rattle.std.proofs.lemmas.Grind.{div_ceil_times}
use Rattle.std.proofs.Math.Seq.{drop-append-add, take-append_seam}
use Rattle.std.proofs.lemmas.Bool.Decides.{nat_tests}
use Rattle.std.proofs.lemmas.List.{append-nil, drop-replicate, length-replicate, replicate-append-replicate}
use Rattle.std.specs.Option.{ForSome}
use Rattle.bb_flash.specs.declared.geometry.Geometry.{Geometry}
use Rattle.bb_flash.specs.declared.region.Region.{Region}
use Rattle.bb_flash.specs.Cuts.{IsLater}
use Rattle.bb_flash.specs.Device.{Device, content, erases}
use Rattle.bb_flash.specs.Geometry.{IsGeometry}
use Rattle.bb_flash.specs.Image.{Image}
use Rattle.bb_flash.proofs.Geometries.{whole_times}
use Rattle.bb_bucket.specs.Blocks.{filled_len, filled_to}
use Rattle.bb_bucket.specs.Calls.{Leaves}
use Rattle.bb_bucket.specs.Front.{put_at}
use Rattle.bb_bucket.specs.Kind.{LiesOn, part_of}
use Rattle.bb_bucket.proofs.Pages.{filled_fits}
use Rattle.bb_bucket.proofs.Runs.{part_after}
use Rattle.bb_install.specs.Holding.{HasBytesAt, SlotHolds}
use Rattle.bb_install.specs.Parts.{EachBlank}
use Rattle.bb_install.specs.Ranges.{last_range, paged_len, slot_ranges}
use Rattle.bb_install.specs.Slot.{HasPlace}
use Rattle.bb_install.specs.Writing.{IsInstalled, SlotWrites, erases_of_slot, slot_text}
use Rattle.bb_install.proofs.Blanking.{each_blank}
use Rattle.bb_install.proofs.Places.{none_or_some, slot_lies}
use Rattle.bb_install.proofs.Putting.{put_none, put_over}
use Rattle.bb_install.proofs.Standing.{put_holds, put_stands, stands_blank}

-- ---- the text that is written

text_in_place : (geometry : Geometry) (slot : Region) (image : List ℕ) → geometry.block ≡ 0 → slot_text geometry slot image ≡ image
text_in_place geometry slot image none = ap (λ (b : ℕ). cond (b == 0) image (filled_to slot.size image)) none

pub not_zero : (n : ℕ) → 0 < n → (n == 0) ≡ false
not_zero n some = grind (arith, nat_tests)

text_in_blocks : (geometry : Geometry) (slot : Region) (image : List ℕ) → 0 < geometry.block → slot_text geometry slot image ≡ filled_to slot.size image
text_in_blocks geometry slot image some = ap (λ (b : Bool). cond b image (filled_to slot.size image)) (not_zero geometry.block some)

-- what is filled to a length, and filled on
filled_twice : (n m : ℕ) (bytes : List ℕ) → length bytes ≤ n → n ≤ m → filled_to n bytes ++ replicate (m - n) 255 ≡ filled_to m bytes
filled_twice n m bytes fits order =
    append_assoc bytes (replicate (n - length bytes) 255) (replicate (m - n) 255)
    ∙ ap (λ xs. bytes ++ xs)
    (replicate-append-replicate (n - length bytes) (m - n) 255
    ∙ ap (λ k. replicate k 255) (let sum : n - length bytes + (m - n) ≡ m - length bytes = omega arith in sum))

pub filled_size : (n : ℕ) (bytes : List ℕ) → length bytes ≤ n → length (filled_to n bytes) ≡ n
filled_size n bytes fits = omega (arith, length-append bytes (replicate (n - length bytes) 255), length-replicate {A = ℕ} (n - length bytes) 255)

-- an image, filled to whole pages, over the erased slot
pub over_blocks : (geometry : Geometry) (slot : Region) (image : List ℕ) (n : ℕ) (part : Image) → IsGeometry geometry → HasPlace geometry slot → 0 < geometry.block → length image ≤ n → n ≤ slot.size → n % geometry.page ≡ 0 → put_at geometry.page 0 (filled_to n image) (put_at geometry.page 0 (replicate (slot.size / geometry.block * geometry.block) 255) part) ≡ put_at geometry.page 0 (slot_text geometry slot image) part
over_blocks geometry slot image n part within has some fits small whole =
    let page : ℕ = geometry.page in
    let lies = slot_lies geometry slot within has in
    let all : slot.size / geometry.block * geometry.block ≡ slot.size = whole_times slot.size geometry.block (has.aligned.size some) in
    let xs : List ℕ = filled_to n image in
    let ys : List ℕ = replicate slot.size 255 in
    let first : length xs ≡ n = filled_size n image fits in
    let second : length ys ≡ slot.size = length-replicate {A = ℕ} slot.size 255 in
    let behind : drop (length xs) ys ≡ replicate (slot.size - n) 255 = ap (λ k. drop k ys) first ∙ drop-replicate n slot.size 255 in
    ap (λ k. put_at page 0 xs (put_at page 0 (replicate k 255) part)) all
    ∙ put_over page xs ys part within.page_some (omega arith) (ap (λ k. k % page) first ∙ whole) (ap (λ k. k % page) second ∙ lies.whole)
    ∙ ap (λ zs. put_at page 0 zs part)
    (ap (λ zs. xs ++ zs) behind ∙ filled_twice n slot.size image fits small ∙ sym (text_in_blocks geometry slot image some))

-- an image in whole pages is filled already
filled_whole : (bytes : List ℕ) → filled_to (length bytes) bytes ≡ bytes
filled_whole bytes =
    let none : length bytes - length bytes ≡ 0 = omega arith in
    ap (λ k. bytes ++ replicate k 255) none ∙ append-nil bytes

over_in_place : (geometry : Geometry) (slot : Region) (image : List ℕ) (part : Image) → geometry.block ≡ 0 → put_at geometry.page 0 image (put_at geometry.page 0 (replicate (slot.size / geometry.block * geometry.block) 255) part) ≡ put_at geometry.page 0 (slot_text geometry slot image) part
over_in_place geometry slot image part none =
    let erased : slot.size / geometry.block * geometry.block ≡ 0 = ap (λ b. slot.size / b * b) none ∙ mul-zero (slot.size / 0) in
    ap (λ k. put_at geometry.page 0 image (put_at geometry.page 0 (replicate k 255) part)) erased
    ∙ ap (put_at geometry.page 0 image) (put_none geometry.page part)
    ∙ ap (λ zs. put_at geometry.page 0 zs part) (sym (text_in_place geometry slot image none))

pub over_whole : (geometry : Geometry) (slot : Region) (image : List ℕ) (part : Image) → IsGeometry geometry → HasPlace geometry slot → length image ≤ slot.size → length image % geometry.page ≡ 0 → put_at geometry.page 0 image (put_at geometry.page 0 (replicate (slot.size / geometry.block * geometry.block) 255) part) ≡ put_at geometry.page 0 (slot_text geometry slot image) part
over_whole geometry slot image part within has small whole = elim (none_or_some geometry.block) [
  | inl none ↦ over_in_place geometry slot image part none
  | inr some ↦
      ap (λ xs. put_at geometry.page 0 xs (put_at geometry.page 0 (replicate (slot.size / geometry.block * geometry.block) 255) part)) (sym (filled_whole image))
      ∙ over_blocks geometry slot image (length image) part within has some (omega arith) small whole
]

-- ---- what an image that was written leaves

text_begins : (geometry : Geometry) (slot : Region) (image : List ℕ) → take (length image) (slot_text geometry slot image) ≡ image
text_begins geometry slot image = elim (none_or_some geometry.block) [
  | inl none ↦ ap (take (length image)) (text_in_place geometry slot image none) ∙ take_all (length image) image (omega arith)
  | inr some ↦ ap (take (length image)) (text_in_blocks geometry slot image some) ∙ take-append_seam image (replicate (slot.size - length image) 255)
]

text_fits : (geometry : Geometry) (slot : Region) (image : List ℕ) → length image ≤ slot.size → (length (slot_text geometry slot image) ≤ slot.size) × (length image ≤ length (slot_text geometry slot image))
text_fits geometry slot image fits = elim (none_or_some geometry.block) [
  | inl none ↦ (let size = ap (length {A = ℕ}) (text_in_place geometry slot image none) in (omega arith, omega arith))
  | inr some ↦ (let size = ap (length {A = ℕ}) (text_in_blocks geometry slot image some) in let filled = filled_size slot.size image fits in (omega arith, omega arith))
]

behind_blank : (bytes : List ℕ) (size len : ℕ) → length bytes ≤ len → len ≤ size → take (size - len) (drop len (filled_to size bytes)) ≡ replicate (size - len) 255
behind_blank bytes size len past fits =
    let n : ℕ = length bytes in
    let split : len ≡ n + (len - n) = omega arith in
    let rest : size - n - (len - n) ≡ size - len = omega arith in
    ap (λ k. take (size - len) (drop k (filled_to size bytes))) split
    ∙ ap (take (size - len)) (drop-append-add bytes (replicate (size - n) 255) (len - n) ∙ drop-replicate (len - n) (size - n) 255 ∙ ap (λ k. replicate k 255) rest)
    ∙ take_all (size - len) (replicate (size - len) 255) (let size_is = length-replicate {A = ℕ} (size - len) 255 in omega arith)

pub installed :
    (slot : Region) (image : List ℕ) (from to : Device) → IsGeometry from.geometry → HasPlace from.geometry slot → length image ≤ slot.size → IsLater from to →
    SlotWrites (slot_ranges from.geometry slot (length image)) slot (put_at from.geometry.page 0 (slot_text from.geometry slot image)) from to →
    erases to ≡ option_map (erases_of_slot from.geometry slot (slot.size / from.geometry.block)) (erases from) →
    IsInstalled slot image from to
installed slot image from to within has fits later writes counted =
    let geometry : Geometry = from.geometry in
    let page : ℕ = geometry.page in
    let text : List ℕ = slot_text geometry slot image in
    let lies : LiesOn geometry slot = slot_lies geometry slot within has in
    let sizes = text_fits geometry slot image fits in
    record {
      writes = writes;
      erases = counted;
      holds = λ after e.
          (let first = part_after slot (put_at page 0 text) from to after later writes.leaves e in
          subst (λ (xs : List ℕ). SlotHolds page slot xs after) (text_begins geometry slot image)
          (put_holds geometry slot text (length image) after (part_of page slot first.0) within.page_some lies sizes.0 sizes.1 first.2));
      blank = λ some after e.
          (let first = part_after slot (put_at page 0 text) from to after later writes.leaves e in
          let len : ℕ = filled_len page (length image) in
          let most : len ≤ slot.size = filled_fits page (length image) slot.size within.page_some lies.whole fits in
          let least : length image ≤ len = (div_ceil_times (length image) page within.page_some).0 in
          let is = text_in_blocks geometry slot image some in
          let size : length text ≡ slot.size = ap (length {A = ℕ}) is ∙ filled_size slot.size image fits in
          stands_blank page (slot.at + len) (slot.size - len) after
          (subst (λ (xs : List ℕ). HasBytesAt page after (slot.at + len) xs)
          (ap (λ (xs : List ℕ). take (slot.size - len) (drop len xs)) is ∙ behind_blank image slot.size len least most)
          (put_stands geometry slot after text len (slot.size - len) (part_of page slot first.0) within.page_some lies sizes.0 (omega arith) first.2)));
    }

-- ---- the steps

pub last_none : (page : ℕ) (slot : Region) (len : ℕ) → len % page ≡ 0 → last_range page slot len ≡ []
last_none page slot len whole = ap (λ (n : ℕ). cond (n == 0) [] (record { at = slot.at + paged_len page len; size = page } ∷ [])) whole

pub last_some : (page : ℕ) (slot : Region) (len : ℕ) → 0 < len % page → last_range page slot len ≡ record { at = slot.at + paged_len page len; size = page } ∷ []
last_some page slot len some = ap (λ (b : Bool). cond b [] (record { at = slot.at + paged_len page len; size = page } ∷ [])) (not_zero (len % page) some)

-- the state in which the slot was erased, and what is blank then
pub erased_blank :
    (slot : Region) (one two : Device) → IsGeometry one.geometry → HasPlace one.geometry slot → IsLater one two → 0 < one.geometry.block →
    Leaves slot (put_at one.geometry.page 0 (replicate (slot.size / one.geometry.block * one.geometry.block) 255)) one two →
    ForSome (content two) (λ image. EachBlank two.geometry.page slot.size (part_of two.geometry.page slot image))
erased_blank slot one two within has later some leaves after e =
    let geometry : Geometry = one.geometry in
    let page : ℕ = geometry.page in
    let all : slot.size / geometry.block * geometry.block ≡ slot.size = whole_times slot.size geometry.block (has.aligned.size some) in
    let first = part_after slot (put_at page 0 (replicate (slot.size / geometry.block * geometry.block) 255)) one two after later leaves e in
    let page_is : two.geometry.page ≡ page = ap (λ (g : Geometry). g.page) later.geometry in
    subst (λ (p : ℕ). EachBlank p slot.size (part_of p slot after)) (sym page_is)
    (each_blank page slot.size (part_of page slot first.0) (part_of page slot after) within.page_some
    (first.2 ∙ ap (λ k. put_at page 0 (replicate k 255) (part_of page slot first.0)) all))
