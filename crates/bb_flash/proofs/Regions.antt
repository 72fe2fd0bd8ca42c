-- A torn call leaves each region that it doesn't touch; and what is torn inside a range is torn
-- inside a wider one.
use Rattle.std.proofs.Common.{◌≡◌, ℕ, zero, suc, ◌+◌, ◌-◌, ◌*◌, ◌/◌, ◌%◌, ◌<◌, ◌≤◌, ◌∙◌, List, take, drop, ap, sym, arith, refl, inl, inr, ◌⊎◌}
use Rattle.std.proofs.lemmas.Grind.{div_ceil_times}
use Rattle.std.proofs.lemmas.List.{drop-drop, drop-take, take-take}
use Rattle.std.proofs.lemmas.Nat.{le-div}
use Rattle.std.proofs.Math.Nat.{div-mul-le_self, mul-le-mul_right}
use Rattle.std.specs.Int.{div_ceil}
use Rattle.bb_flash.specs.Cuts.{IsSameRegion}
use Rattle.bb_flash.specs.Image.{Image, SameOutside, Torn, page_count, touched_pages}
use Rattle.bb_flash.proofs.Geometries.{whole_times}
use Rattle.bb_flash.proofs.Tearing.{pages_inside, touched_pages-some}

SameOutside-before : {X : Type 0} → (at len r n : ℕ) (xs ys : List X) → SameOutside at len xs ys → r + n ≤ at → take n (drop r ys) ≡ take n (drop r xs)
SameOutside-before at len r n xs ys same apart =
    sym (drop-take r n ys) ∙ ap (drop r) (sym (take-take (r + n) at ys apart) ∙ ap (take (r + n)) same.front ∙ take-take (r + n) at xs apart)
    ∙ drop-take r n xs

SameOutside-behind : {X : Type 0} → (at len r n : ℕ) (xs ys : List X) → SameOutside at len xs ys → at + len ≤ r → take n (drop r ys) ≡ take n (drop r xs)
SameOutside-behind at len r n xs ys same apart =
    let sum : r ≡ at + len + (r - (at + len)) = omega arith in
    ap (take n)
    (ap (λ k. drop k ys) sum ∙ sym (drop-drop (r - (at + len)) (at + len) ys) ∙ ap (drop (r - (at + len))) same.behind
    ∙ drop-drop (r - (at + len)) (at + len) xs
    ∙ ap (λ k. drop k xs) (sym sum))

-- whole pages that end at a place or before it
whole_before : (page at len r : ℕ) → 0 < page → at % page ≡ 0 → len % page ≡ 0 → at + len ≤ r → at + len ≤ r / page * page
whole_before page at len r some first whole inside =
    let a = whole_times at page first in
    let l = whole_times len page whole in
    let count : at / page + len / page ≤ r / page = le-div (at / page + len / page) r page some (omega arith) in
    let times = mul-le-mul_right page count in
    omega arith

touched_before : (page at len r n : ℕ) (before image : Image) → 0 < page → at % page ≡ 0 → Torn page at len before image → r + n ≤ at → touched_pages page r n image.health ≡ touched_pages page r n before.health
touched_before page at len r zero before image some first torn apart = refl
touched_before page at len r (suc n) before image some first torn apart =
    let a = whole_times at page first in
    let pages = pages_inside page (at / page) r (suc n) some (omega arith) in
    touched_pages-some page r (suc n) image.health (omega arith)
    ∙ SameOutside-before (at / page) (page_count page at len) (r / page) (page_count page r (suc n)) before.health image.health torn.health pages
    ∙ sym (touched_pages-some page r (suc n) before.health (omega arith))

touched_behind : (page at len r n : ℕ) (before image : Image) → 0 < page → at % page ≡ 0 → len % page ≡ 0 → Torn page at len before image → at + len ≤ r → touched_pages page r n image.health ≡ touched_pages page r n before.health
touched_behind page at len r zero before image some first whole torn apart = refl
touched_behind page at len r (suc n) before image some first whole torn apart =
    let pages = pages_inside page (r / page) at len some (whole_before page at len r some first whole apart) in
    touched_pages-some page r (suc n) image.health (omega arith)
    ∙ SameOutside-behind (at / page) (page_count page at len) (r / page) (page_count page r (suc n)) before.health image.health torn.health pages
    ∙ sym (touched_pages-some page r (suc n) before.health (omega arith))

-- a call on whole pages leaves each region beside them
pub Torn-region : (page at len r n : ℕ) (before image : Image) → 0 < page → at % page ≡ 0 → len % page ≡ 0 → Torn page at len before image → (r + n ≤ at) ⊎ (at + len ≤ r) → IsSameRegion page r n before image
Torn-region page at len r n before image some first whole torn (inl apart) = record {
  bytes = SameOutside-before at len r n before.bytes image.bytes torn.bytes apart;
  health = touched_before page at len r n before image some first torn apart;
}
Torn-region page at len r n before image some first whole torn (inr apart) = record {
  bytes = SameOutside-behind at len r n before.bytes image.bytes torn.bytes apart;
  health = touched_behind page at len r n before image some first whole torn apart;
}

pub IsSameRegion-trans : (page r n : ℕ) (one two three : Image) → IsSameRegion page r n one two → IsSameRegion page r n two three → IsSameRegion page r n one three
IsSameRegion-trans page r n one two three h k = record { bytes = k.bytes ∙ h.bytes; health = k.health ∙ h.health }

SameOutside-wider : {X : Type 0} → (at len first size : ℕ) (xs ys : List X) → first ≤ at → at + len ≤ first + size → SameOutside at len xs ys → SameOutside first size xs ys
SameOutside-wider at len first size xs ys low high same =
    let sum : first + size ≡ at + len + (first + size - (at + len)) = omega arith in
    record {
      lengths = same.lengths;
      front = sym (take-take first at ys low) ∙ ap (take first) same.front ∙ take-take first at xs low;
      behind =
          ap (λ k. drop k ys) sum ∙ sym (drop-drop (first + size - (at + len)) (at + len) ys)
          ∙ ap (drop (first + size - (at + len))) same.behind
          ∙ drop-drop (first + size - (at + len)) (at + len) xs
          ∙ ap (λ k. drop k xs) (sym sum);
    }

-- what is torn inside a range is torn inside a wider one
pub Torn-wider : (page at len first size : ℕ) (before image : Image) → 0 < page → first ≤ at → at + len ≤ first + size → Torn page at len before image → Torn page first size before image
Torn-wider page at len first size before image some low high torn =
    let times = div_ceil_times (first + size) page some in
    let pages = pages_inside page (div_ceil (first + size) page) at len some (omega arith) in
    let floor = le-div (first / page) at page some (omega (arith, div-mul-le_self first page)) in
    record {
      bytes = SameOutside-wider at len first size before.bytes image.bytes low high torn.bytes;
      health = SameOutside-wider (at / page) (page_count page at len) (first / page) (page_count page first size) before.health image.health floor (omega arith) torn.health;
    }
