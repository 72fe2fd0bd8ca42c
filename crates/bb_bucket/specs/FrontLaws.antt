-- A region that was written with a front and a record has the record as its candidate, and a blank
-- one has none.
use Rattle.std.proofs.Common.{◌≡◌, ℕ, zero, suc, ◌+◌, ◌*◌, ◌/◌, ◌^◌, ◌<◌, ◌≤◌, Bool, true, false, ◌&&◌, not, List, [], ◌++◌, length, take, drop, replicate, Some, None, refl, sym, ap, ◌∙◌, arith, cond, length-append}
use Rattle.std.proofs.Math.Nat.{zero-div}
use Rattle.std.proofs.lemmas.Bool.{le-leb}
use Rattle.std.proofs.lemmas.Grind.{common_steps, div_ceil_times}
use Rattle.std.proofs.lemmas.List.{append-nil}
use Rattle.byteorder.specs.Numbers.{little_number-reads_back}
use Rattle.bb_flash.specs.declared.health.Health.{Health}
use Rattle.bb_flash.specs.declared.health.Health.TheVariants.{Fine}
use Rattle.bb_flash.specs.Image.{Image, health_of, with_items_at, page_count, touched_pages, worst_of}
use Rattle.bb_flash.proofs.Tearing.{pages_inside, touched_pages-some}
use Rattle.bb_bucket.specs.Blocks.{erased_block}
use Rattle.bb_bucket.specs.Front.{with_header, front_candidate, has_front, is_lost, header_len_of, put_at, record_health}
use Rattle.bb_bucket.specs.Kind.{BeginsWithRecord}

pub fine_within :
    (at n k : ℕ) (others : List Health) →
    at + n ≤ k → worst_of (take n (drop at (replicate k Fine ++ others))) ≡ Fine
fine_within zero zero k others fits = refl
fine_within zero (suc n) zero others fits = absurd (omega arith)
fine_within zero (suc n) (suc k) others fits = fine_within zero n k others (omega arith)
fine_within (suc at) n zero others fits = absurd (omega arith)
fine_within (suc at) n (suc k) others fits = fine_within at n k others (omega arith)

-- the pages of a range are Fine where as many from the first on are
pub fine_range :
    (page at n k : ℕ) (others : List Health) →
    0 < page → at + n ≤ k * page →
    worst_of (touched_pages page at n (replicate k Fine ++ others)) ≡ Fine
fine_range page at zero k others some fits = refl
fine_range page at (suc n) k others some fits =
    let within = pages_inside page k at (suc n) some fits in
    ap worst_of (touched_pages-some page at (suc n) (replicate k Fine ++ others) (omega arith))
    ∙ fine_within (at / page) (page_count page at (suc n)) k others within

-- the first pages of a region are Fine once bytes were written there
pub written_fine :
    (page : ℕ) (bytes : List ℕ) (region : Image) (at n : ℕ) →
    0 < page → at + n ≤ length bytes → health_of page (put_at page 0 bytes region) at n ≡ Fine
written_fine page bytes region at n some fits =
    let count : ℕ = page_count page 0 (length bytes) in
    let pages : List Health = replicate count Fine in
    let whole = div_ceil_times (0 + length bytes) page some in
    let all : at + n ≤ count * page = grind (arith, zero-div page) in
    ap (λ first. worst_of (touched_pages page at n (with_items_at first pages region.health)))
    (zero-div page)
    ∙ fine_range page at n count (drop (0 + length pages) region.health) some all

three_hold :
    {X : Type 0} (a b c : Bool) (x y : X) →
    a ≡ true → b ≡ true → c ≡ true → cond (a && b && c) x y ≡ x
three_hold a b c x y p q r = rw (p, q, r) refl

pub first_fails :
    {X : Type 0} (a b c : Bool) (x y : X) → a ≡ false → cond (a && b && c) x y ≡ y
first_fails false b c x y e = refl
first_fails true b c x y e = absurd cc

pub second_fails :
    {X : Type 0} (a b c : Bool) (x y : X) → b ≡ false → cond (a && b && c) x y ≡ y
second_fails false b c x y e = refl
second_fails true false c x y e = refl
second_fails true true c x y e = absurd cc

taken_back : (rec filling others : List ℕ) → take (length rec) (rec ++ filling ++ others) ≡ rec
taken_back rec filling others = grind (arith, common_steps)

written_front :
    (rec filling others : List ℕ) →
    length rec < 2 ^ 32 →
    has_front (length (with_header rec ++ filling ++ others))
    (take 8 (with_header rec ++ filling ++ others))
    ≡ true
written_front rec filling others small =
    let bytes : List ℕ = with_header rec ++ filling ++ others in
    let len : header_len_of (take 8 bytes) ≡ length rec =
    little_number-reads_back 4 (length rec) [] small in
    le-leb (8 + header_len_of (take 8 bytes)) (length bytes)
    (omega (
      arith,
      length-append (with_header rec ++ filling) others,
      length-append (with_header rec) filling,
    ))

-- a region that was written with a record and perhaps filled has it as its candidate, whatever
-- stood there
filled_candidate :
    (page : ℕ) (rec filling : List ℕ) (region : Image) →
    0 < page → length rec < 2 ^ 32 →
    front_candidate page (put_at page 0 (with_header rec ++ filling) region) ≡ Some rec
filled_candidate page rec filling region some small =
    let bytes : List ℕ = with_header rec ++ filling in
    let after : Image = put_at page 0 bytes region in
    let others : List ℕ = drop (0 + length bytes) region.bytes in
    let room = length-append (with_header rec) filling in
    let len : header_len_of (take 8 after.bytes) ≡ length rec =
    little_number-reads_back 4 (length rec) [] small in
    let front = written_fine page bytes region 0 8 some (omega arith) in
    let behind = written_fine page bytes region 8 (header_len_of (take 8 after.bytes)) some
    (omega arith) in
    three_hold (not (is_lost (health_of page after 0 8)))
    (has_front (length after.bytes) (take 8 after.bytes))
    (not (is_lost (record_health page after))) _ None (ap (λ h. not (is_lost h)) front)
    (written_front rec filling others small) (ap (λ h. not (is_lost h)) behind)
    ∙ ap (λ n. Some (take n (rec ++ filling ++ others))) len
    ∙ ap (λ bytes. Some bytes) (taken_back rec filling others)

pub written_candidate :
    (page : ℕ) (rec filling bytes : List ℕ) (region : Image) →
    0 < page → length rec < 2 ^ 32 → bytes ≡ with_header rec ++ filling →
    front_candidate page (put_at page 0 bytes region) ≡ Some rec
written_candidate page rec filling bytes region some small is =
    ap (λ bytes. front_candidate page (put_at page 0 bytes region)) is
    ∙ filled_candidate page rec filling region some small

-- so it begins with the record
pub written_begins :
    (page : ℕ) (rec filling bytes : List ℕ) (region : Image) →
    0 < page → length rec < 2 ^ 32 → bytes ≡ with_header rec ++ filling →
    BeginsWithRecord rec (front_candidate page (put_at page 0 bytes region))
written_begins page rec filling bytes region some small is = record {
  rest = [];
  begins =
      written_candidate page rec filling bytes region some small is
      ∙ ap (λ bytes. Some bytes) (sym (append-nil rec));
}

blank_has_none : (size : ℕ) →
    has_front (length {A = ℕ} (replicate size 255)) (take 8 (replicate size 255)) ≡ false
blank_has_none zero = refl
blank_has_none (suc zero) = refl
blank_has_none (suc (suc zero)) = refl
blank_has_none (suc (suc (suc zero))) = refl
blank_has_none (suc (suc (suc (suc size)))) = refl

-- a blank block holds no record
pub blank_holds_none : (page blank_page size : ℕ) →
    front_candidate page (erased_block blank_page size) ≡ None
blank_holds_none page blank_page size =
    let block : Image = erased_block blank_page size in
    second_fails (not (is_lost (health_of page block 0 8)))
    (has_front (length block.bytes) (take 8 block.bytes))
    (not (is_lost (record_health page block))) _ None (blank_has_none size)
