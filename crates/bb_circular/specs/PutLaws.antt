-- What follows of a block into which bytes were put, whole pages of them, and of a blank one.
use Rattle.std.proofs.Common.{◌≡◌, ℕ, zero, suc, ◌+◌, ◌-◌, ◌*◌, ◌/◌, ◌%◌, ◌<◌, ◌≤◌, true, false, not, List, ◌∷◌, ◌++◌, leb, length, take, drop, replicate, Option, Some, None, refl, sym, ap, ◌∙◌, arith, cond, option_map, inr}
use Rattle.std.specs.Option.{option_and_then}
use Rattle.std.proofs.Math.Nat.{add-mul, mul-le-mul_right}
use Rattle.std.proofs.lemmas.Bool.{and_right}
use Rattle.std.proofs.Math.Seq.{take-append_seam}
use Rattle.std.proofs.lemmas.List.{append_assoc, drop-replicate, drop_at, length-replicate, length-take-le}
use Rattle.bb_flash.specs.declared.geometry.Geometry.{Geometry}
use Rattle.bb_flash.specs.Geometry.{size_limit}
use Rattle.bb_flash.specs.declared.health.Health.{Health}
use Rattle.bb_flash.specs.declared.health.Health.TheVariants.{Fine}
use Rattle.bb_flash.specs.declared.region.Region.{Region}
use Rattle.bb_flash.specs.Image.{Image, IsImageOf, Torn, health_of, with_bytes, worst_of}
use Rattle.bb_flash.proofs.Geometries.{whole_times}
use Rattle.bb_flash.proofs.Regions.{Torn-region}
use Rattle.bb_flash.proofs.Tearing.{Torn-left_by}
use Rattle.bb_bucket.specs.Blocks.{erased_block}
use Rattle.bb_bucket.specs.Front.{is_lost, put_at}
use Rattle.bb_bucket.specs.FrontLaws.{written_fine}
use Rattle.bb_bucket.specs.Kind.{LiesOn, part_of}
use Rattle.bb_bucket.proofs.Erases.{blank_is_blank}
use Rattle.bb_bucket.proofs.Pages.{take-drop-part}
use Rattle.bb_bucket.proofs.Programs.{part_programmed}
use Rattle.bb_bucket.proofs.Within.{health_of-part}
use Rattle.bb_circular.specs.declared.kept.Entry.{Entry}
use Rattle.bb_circular.specs.declared.kept.Kept.{Kept}
use Rattle.bb_circular.specs.Circular.{circular_candidate, kept_of, newest_of, readable}
use Rattle.bb_circular.specs.Entries.{closed_entry, closes, last_words, closing_len_of}
use Rattle.bb_circular.specs.Pages.{Page, is_erased, page_at, written_pages}
use Rattle.bb_circular.specs.PagesLaws.{IsPaged, blank_page, written_is}

-- bytes that were put into a list
put_bytes :
    {X : Type 0} (at : ℕ) (new old : List X) →
    at ≤ length old → take (length new) (drop at (take at old ++ new ++ drop (at + length new) old))
    ≡ new
put_bytes at new old reached =
    let rest = drop (at + length new) old in
    ap (λ xs. take (length new) (drop at xs)) (append_assoc (take at old) new rest)
    ∙ ap (take (length new))
    (drop_at (take at old) (new ++ rest) at (length-take-le at old reached))
    ∙ take-append_seam new rest

pub same_page : (a b : Page) → a.bytes ≡ b.bytes → a.health ≡ b.health → a ≡ b
same_page a b p q = ap (λ bytes.
    (let x : Page = record { bytes = bytes; health = a.health } in x)) p
    ∙ ap (λ health. (let x : Page = record { bytes = b.bytes; health = health } in x)) q

-- ---- a block into which bytes were put, whole pages of them

module _ (page size at : ℕ) (bytes : List ℕ) (block : Image)
    (paged : IsPaged page size block) (first : at % page ≡ 0) (whole : length bytes % page ≡ 0)
    (inside : at + length bytes ≤ size) where
  some_page : 0 < page
  some_page = omega (arith, paged.page_least)

  put_torn : Torn page at (length bytes) block (put_at page at bytes block)
  put_torn =
      Torn-left_by None page block at bytes
      (record {
        page_some = some_page;
        pages = paged.bytes ∙ sym paged.pages;
        inside = omega (arith, paged.bytes, inside);
        small = omega (arith, paged.bytes, paged.small);
      })

  pub put_paged : IsPaged page size (put_at page at bytes block)
  put_paged = record {
    page_least = paged.page_least;
    whole = paged.whole;
    bytes = put_torn.bytes.lengths ∙ paged.bytes;
    pages = ap (λ n. n * page) put_torn.health.lengths ∙ paged.pages;
    small = paged.small;
  }

  -- the pages after them stay
  pub put_behind : (k : ℕ) → at + length bytes ≤ k * page →
      page_at page (put_at page at bytes block) k ≡ page_at page block k
  put_behind k behind =
      let same = Torn-region page at (length bytes) (k * page) page block
      (put_at page at bytes block) some_page first whole put_torn (inr behind) in
      same_page _ _ same.bytes (ap worst_of same.health)

  -- a part of what was put
  pub put_part : (k n : ℕ) → k + n ≤ length bytes →
      take n (drop (at + k) (put_at page at bytes block).bytes) ≡ take n (drop k bytes)
  put_part k n fits =
      sym (take-drop-part (put_at page at bytes block).bytes at (length bytes) k n fits)
      ∙ ap (λ xs. take n (drop k xs))
      (put_bytes at bytes block.bytes (omega (arith, paged.bytes, inside)))

  -- its pages are Fine
  pub put_fine : (k n : ℕ) → k + n ≤ length bytes →
      health_of page (put_at page at bytes block) (at + k) n ≡ Fine
  put_fine k n fits =
      let geometry : Geometry = record { page = page; block = size; size = size } in
      let region : Region = record { at = at; size = length bytes } in
      let lies : LiesOn geometry region =
      record { inside = inside; aligned = first; whole = whole } in
      let is : IsImageOf geometry block = record { bytes = paged.bytes; pages = paged.pages } in
      let start : at ≡ at + 0 = omega arith in
      let part =
      ap (λ place. part_of page region (with_bytes page place bytes Fine block)) start
      ∙ part_programmed region geometry 0 bytes block some_page lies (omega arith) is in
      health_of-part geometry (put_at page at bytes block) region k n some_page lies fits
      ∙ ap (λ (i : Image). health_of page i k n) part
      ∙ written_fine page bytes (part_of page region block) k n some_page fits

-- a blank block has no page that isn't blank
pub blank_paged : (page size : ℕ) → 16 ≤ page → size % page ≡ 0 → size ≤ size_limit →
    IsPaged page size (erased_block page size)
blank_paged page size least whole small = record {
  page_least = least;
  whole = whole;
  bytes = length-replicate {A = ℕ} size 255;
  pages = ap (λ n. n * page) (length-replicate {A = Health} (size / page) Fine)
      ∙ whole_times size page whole;
  small = small;
}

pub blank_pages : (page size k : ℕ) → 16 ≤ page → size % page ≡ 0 → k < size / page →
    is_erased (page_at page (erased_block page size) k) ≡ true
blank_pages page size k least whole inside =
    let times = whole_times size page whole in
    let product : (k + 1) * page ≤ size / page * page = mul-le-mul_right page (omega arith) in
    let next = add-mul k 1 page in
    blank_page page (erased_block page size) k
    (blank_is_blank page size (k * page) page (omega arith) whole (omega arith))

pub none_written : (page size : ℕ) → 16 ≤ page → size % page ≡ 0 → size ≤ size_limit →
    written_pages page (erased_block page size) ≡ 0
none_written page size least whole small =
    written_is page size (erased_block page size) (blank_paged page size least whole small) 0
    (omega arith)
    (λ k from below. blank_pages page size k least whole below) (λ some. absurd (omega arith))

-- bytes that were taken from a blank block are blank
taken_blank : (n size : ℕ) → (k : ℕ) × (take {A = ℕ} n (replicate size 255) ≡ replicate k 255)
taken_blank zero size = (0, refl)
taken_blank (suc n) zero = (0, refl)
taken_blank (suc n) (suc size) = let rest = taken_blank n size in
    (suc rest.0, ap (λ bytes. 255 ∷ bytes) rest.1)

blank_words : (page size place : ℕ) → (k : ℕ)
    × (drop {A = ℕ} (page - 8) (take page (drop place (replicate size 255))) ≡ replicate k 255)
blank_words page size place =
    let front = taken_blank page (size - place) in (
      front.0 - (page - 8),
      ap (λ bytes. drop (page - 8) (take page bytes)) (drop-replicate place size 255)
          ∙ ap (drop (page - 8)) front.1
          ∙ drop-replicate (page - 8) front.0 255,
    )

blank_closes_none : (page end k : ℕ) → closes page end (replicate k 255) ≡ false
blank_closes_none page end zero = refl
blank_closes_none page end (suc zero) = refl
blank_closes_none page end (suc (suc zero)) = refl
blank_closes_none page end (suc (suc (suc zero))) = refl
blank_closes_none page end (suc (suc (suc (suc k)))) = refl

open_page :
    (page pages : ℕ) (last : Page) → closes page (pages * page) (last_words page last) ≡ false →
    closed_entry page pages last ≡ None
open_page page pages last none =
    ap (λ b. cond b (Some (record {
      at = pages * page - closing_len_of (last_words page last);
      len = closing_len_of (last_words page last);
    })) None)
    (and_right (leb 1 pages) _ (and_right (not (is_lost last.health)) _ none))

-- so nothing stands in it
pub blank_newest : (page blank_page size : ℕ) → newest_of page (erased_block blank_page size) ≡ None
blank_newest page blank_page size =
    let block : Image = erased_block blank_page size in
    let pages : ℕ = written_pages page block in
    let words = blank_words page size ((pages - 1) * page) in
    ap (option_and_then (readable page block))
    (open_page page pages (page_at page block (pages - 1))
    (ap (closes page (pages * page)) words.1 ∙ blank_closes_none page (pages * page) words.0))

pub blank_candidate : (page blank_page size : ℕ) →
    circular_candidate page (erased_block blank_page size) ≡ None
blank_candidate page blank_page size =
    ap (option_map (λ (entry : Entry).
    take (entry.len - 8) (drop entry.at (erased_block blank_page size).bytes)))
    (blank_newest page blank_page size)

-- and the next entry goes to its start
pub blank_kept : (page size : ℕ) → 16 ≤ page → size % page ≡ 0 → size ≤ size_limit →
    kept_of page (erased_block page size) ≡ record { next = 0; newest = None }
blank_kept page size least whole small =
    let kept = λ (next : ℕ) (newest : Option Entry).
    (let k : Kept = record { next = next; newest = newest } in k) in
    let start : 0 * page ≡ 0 = omega arith in
    ap (λ n. kept (n * page) (newest_of page (erased_block page size)))
    (none_written page size least whole small)
    ∙ ap (λ n. kept n (newest_of page (erased_block page size))) start
    ∙ ap (kept 0) (blank_newest page page size)
