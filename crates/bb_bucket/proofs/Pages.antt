-- The pages of a region that lies on a device in whole pages.
use Rattle.std.proofs.Common.{◌≡◌, ℕ, zero, suc, ◌+◌, ◌-◌, ◌/◌, ◌%◌, ◌<◌, ◌≤◌, min, List, take, drop, refl, sym, ap, ◌∙◌, arith}
use Rattle.std.proofs.Math.Nat.{add-mul, lt_of_mul-lt-mul_right, mul-add-div_right, mul-add-mod_self_right, mul-le-mul_right, zero-div}
use Rattle.std.proofs.lemmas.Grind.{div_ceil_times}
use Rattle.std.proofs.lemmas.List.{take-take, drop-drop, drop-take}
use Rattle.std.specs.Int.{div_ceil}
use Rattle.bb_flash.specs.declared.health.Health.{Health}
use Rattle.bb_flash.specs.Image.{page_count, touched_pages}
use Rattle.bb_flash.proofs.Geometries.{whole_times}
use Rattle.bb_bucket.specs.Blocks.{filled_len}
use Rattle.bb_flash.proofs.Tearing.{pages_inside, touched_pages-some}

-- what stands in a part of a list stands in the list
pub take-drop-part :
    {X : Type 0} (xs : List X) (at size k n : ℕ) →
    k + n ≤ size → take n (drop k (take size (drop at xs))) ≡ take n (drop (at + k) xs)
take-drop-part xs at size k n fits =
    let whole : size ≡ k + (size - k) = omega arith in
    ap (λ s. take n (drop k (take s (drop at xs)))) whole
    ∙ ap (take n) (drop-take k (size - k) (drop at xs))
    ∙ take-take n (size - k) (drop k (drop at xs)) (omega arith)
    ∙ ap (take n) (drop-drop k at xs)

-- a place in whole pages before a place moves its page on by as many
pub div_moved : (page first at : ℕ) → 0 < page → first % page ≡ 0 → (first + at) / page ≡ first / page + at / page
div_moved page first at some whole =
    ap (λ n. (n + at) / page) (sym (whole_times first page whole))
    ∙ mul-add-div_right some (first / page) at

pub mod_moved : (page first at : ℕ) → first % page ≡ 0 → (first + at) % page ≡ at % page
mod_moved page first at whole =
    ap (λ n. (n + at) % page) (sym (whole_times first page whole))
    ∙ mul-add-mod_self_right (first / page) page at

div_ceil_moved :
    (page first at : ℕ) → 0 < page → first % page ≡ 0 →
    div_ceil (first + at) page ≡ first / page + div_ceil at page
div_ceil_moved page first at some whole =
    let quotient = div_moved page first at some whole in
    let rest = ap (min 1) (mod_moved page first at whole) in
    omega arith

pub page_count_moved :
    (page first at n : ℕ) → 0 < page → first % page ≡ 0 →
    page_count page (first + at) n ≡ page_count page at n
page_count_moved page first at n some whole =
    let sum : first + at + n ≡ first + (at + n) = omega arith in
    let end = ap (λ n. div_ceil n page) sum ∙ div_ceil_moved page first (at + n) some whole in
    let start = div_moved page first at some whole in
    omega arith

div_ceil_whole : (page size : ℕ) → size % page ≡ 0 → div_ceil size page ≡ size / page
div_ceil_whole page size whole = omega (arith, ap (min 1) whole)

pub page_count_whole :
    (page at size : ℕ) → 0 < page → at % page ≡ 0 → size % page ≡ 0 →
    page_count page at size ≡ size / page
page_count_whole page at size some first whole =
    let end = div_ceil_moved page at size some first in
    let all = div_ceil_whole page size whole in
    omega arith

-- the pages of a region
pub touched_region :
    (page at size : ℕ) (pages : List Health) →
    0 < page → at % page ≡ 0 → size % page ≡ 0 →
    touched_pages page at size pages ≡ take (size / page) (drop (at / page) pages)
touched_region page at zero pages some first whole =
    ap (λ n. take n (drop (at / page) pages)) (sym (zero-div page))
touched_region page at (suc size) pages some first whole =
    touched_pages-some page at (suc size) pages (omega arith)
    ∙ ap (λ n. take n (drop (at / page) pages)) (page_count_whole page at (suc size) some first whole)

-- the pages of a range inside a region, seen in the region
pub touched_part :
    (page first size at n : ℕ) (pages : List Health) →
    0 < page → first % page ≡ 0 → size % page ≡ 0 → at + n ≤ size →
    touched_pages page (first + at) n pages
    ≡ touched_pages page at n (touched_pages page first size pages)
touched_part page first size at zero pages some aligned whole fits = refl
touched_part page first size at (suc n) pages some aligned whole fits =
    let count : ℕ = page_count page at (suc n) in
    let times = whole_times size page whole in
    let inside = pages_inside page (size / page) at (suc n) some (omega arith) in
    touched_pages-some page (first + at) (suc n) pages (omega arith)
    ∙ ap (λ c. take c (drop ((first + at) / page) pages)) (page_count_moved page first at (suc n) some aligned)
    ∙ ap (λ k. take count (drop k pages)) (div_moved page first at some aligned)
    ∙ sym (take-drop-part pages (first / page) (size / page) (at / page) count inside)
    ∙ ap (λ part. take count (drop (at / page) part)) (sym (touched_region page first size pages some aligned whole))
    ∙ sym (touched_pages-some page at (suc n) (touched_pages page first size pages) (omega arith))

-- a place in whole pages of a region that begins with a page
pub sum_aligned : (page first at : ℕ) → first % page ≡ 0 → at % page ≡ 0 → (first + at) % page ≡ 0
sum_aligned page first at first_whole at_whole = mod_moved page first at first_whole ∙ at_whole

-- the least whole pages that hold some bytes lie in each region that holds them
pub filled_fits : (page len size : ℕ) → 0 < page → size % page ≡ 0 → len ≤ size → filled_len page len ≤ size
filled_fits page len size some whole fits =
    let ceil = div_ceil_times len page some in
    let times = whole_times size page whole in
    let next = add-mul (size / page) 1 page in
    let few : div_ceil len page < size / page + 1 = lt_of_mul-lt-mul_right page (omega arith) in
    let product = mul-le-mul_right {m = div_ceil len page} {n = size / page} page (omega arith) in
    omega arith
