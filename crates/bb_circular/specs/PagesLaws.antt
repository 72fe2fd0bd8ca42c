-- What follows for the pages of a block: which is the last that isn't blank, and what stands after
-- it.
use Rattle.std.proofs.Common.{◌≡◌, ◌≢◌, ℕ, zero, suc, ◌+◌, ◌-◌, ◌*◌, ◌/◌, ◌%◌, ◌<◌, ◌≤◌, Bool, true, false, not, List, [], ◌∷◌, ◌++◌, eqb, length, take, drop, replicate, get_or, refl, sym, ap, ◌∙◌, subst, arith, inl, inr, take-add, take_all}
use Rattle.std.specs.List.{fold, list_all, suffix_len}
use Rattle.std.proofs.Math.Nat.{add-mul, mod_self, mul-le-mul_right, mul-mod_left}
use Rattle.std.proofs.lemmas.Bool.{and_from, and_parts, cases_Bool, eqb-true, false≢true, not-true, true_from_ne_false}
use Rattle.std.proofs.lemmas.List.{drop-drop, length-drop, length-take-le, replicate-append-replicate}
use Rattle.std.proofs.lemmas.List.FromFn.{get_or-map-range_with_len, length-map-range_with_len}
use Rattle.std.proofs.lemmas.List.Sums.{fold-append, suffix_len-take_no, suffix_len-take_yes, suffix_len_is}
use Rattle.bb_flash.specs.declared.health.Health.{Health}
use Rattle.bb_flash.specs.declared.health.Health.TheVariants.{Fine, Worn, Lost}
use Rattle.bb_flash.specs.Image.{Image, IsBlank, health_of, touched_pages, worse_of, worst_of}
use Rattle.bb_flash.proofs.Geometries.{whole_times}
use Rattle.bb_flash.specs.Geometry.{size_limit}
use Rattle.bb_bucket.specs.Front.{is_lost}
use Rattle.bb_bucket.proofs.Pages.{div_moved, sum_aligned, touched_region}
use Rattle.bb_circular.specs.Pages.{Page, is_erased, page_at, pages_of, written_pages}

-- a block of whole pages
pub record IsPaged (page size : ℕ) (block : Image) : Type 0 where
  pub page_least : 16 ≤ page
  pub whole : size % page ≡ 0
  pub bytes : length block.bytes ≡ size
  pub pages : length block.health * page ≡ size
  pub small : size ≤ size_limit

-- ---- lists of which the end passes a test

shorter :
    {X : Type 0} (p : X → Bool) (xs : List X) (d : X) (n m : ℕ) →
    n + m ≤ length xs → suffix_len p (take (n + m) xs) ≤ suffix_len p (take n xs) + m
shorter p xs d n zero inside =
    let none : n + 0 ≡ n = omega arith in
    let same = ap (λ k. suffix_len p (take k xs)) none in
    omega arith
shorter p xs d n (suc m) inside =
    let last : n + suc m - 1 ≡ n + m = omega arith in
    let before = ap (λ k. suffix_len p (take k xs)) last in
    let short = shorter p xs d n m (omega arith) in
    elim (cases_Bool (p (get_or xs (n + suc m - 1) d))) [
      | inl passes ↦
          let more = suffix_len-take_yes p xs (n + suc m) d (omega arith) inside passes in
          omega arith
      | inr fails ↦
          let none = suffix_len-take_no p xs (n + suc m) d (omega arith) inside fails in
          omega arith
    ]

-- each item of that end passes it
passes_behind :
    {X : Type 0} (p : X → Bool) (xs : List X) (k : ℕ) (d : X) →
    length xs - suffix_len p xs ≤ k → k < length xs → p (get_or xs k d) ≡ true
passes_behind p xs k d from below =
    true_from_ne_false (p (get_or xs k d))
    (λ fails.
    let here : k + 1 - 1 ≡ k = omega arith in
    let last : p (get_or xs (k + 1 - 1) d) ≡ false = ap (λ i. p (get_or xs i d)) here ∙ fails in
    let none = suffix_len-take_no p xs (k + 1) d (omega arith) (omega arith) last in
    let rest = shorter p xs d (k + 1) (length xs - (k + 1)) (omega arith) in
    let all = ap (suffix_len p) (take_all (k + 1 + (length xs - (k + 1))) xs (omega arith)) in
    omega arith)

-- ---- blank pages

all_blank : (n : ℕ) → list_all (λ (byte : ℕ). eqb byte 255) (replicate n 255) ≡ true
all_blank zero = refl
all_blank (suc n) = all_blank n

blank_all : (bytes : List ℕ) → list_all (λ (byte : ℕ). eqb byte 255) bytes ≡ true →
    bytes ≡ replicate (length bytes) 255
blank_all [] all = refl
blank_all (byte ∷ bytes) all =
    let parts = and_parts (eqb byte 255) (list_all (λ (b : ℕ). eqb b 255) bytes) all in
    ap (λ b. b ∷ bytes) (eqb-true byte 255 parts.0) ∙ ap (λ bs. 255 ∷ bs) (blank_all bytes parts.1)

kept_health : (health : Health) → health ≢ Lost → is_lost health ≡ false
kept_health Fine kept = refl
kept_health Worn kept = refl
kept_health Lost kept = absurd (kept refl)

not_lost : (health : Health) → is_lost health ≡ false → health ≢ Lost
not_lost Fine kept = λ lost. cc
not_lost Worn kept = λ lost. cc
not_lost Lost kept = absurd cc

-- bytes of a page that are blank make a blank page, and the other way
pub blank_page :
    (page : ℕ) (block : Image) (k : ℕ) →
    IsBlank page block (k * page) page → is_erased (page_at page block k) ≡ true
blank_page page block k blank =
    let kept = kept_health (health_of page block (k * page) page) blank.alive in
    let all : list_all (λ (byte : ℕ). eqb byte 255) (take page (drop (k * page) block.bytes))
    ≡ true =
    ap (list_all (λ (byte : ℕ). eqb byte 255)) blank.clean ∙ all_blank page in
    and_from _ _ (ap not kept) all

both_kept : (one two : Health) → is_lost one ≡ false → is_lost two ≡ false →
    is_lost (worse_of one two) ≡ false
both_kept Fine two h k = k
both_kept Worn Fine h k = refl
both_kept Worn Worn h k = refl
both_kept Worn Lost h k = k
both_kept Lost two h k = h

lost_stays : (pages : List Health) → fold worse_of Lost pages ≡ Lost
lost_stays [] = refl
lost_stays (one ∷ pages) = lost_stays pages

first_kept : (one : Health) (pages : List Health) →
    is_lost (fold worse_of (worse_of Fine one) pages) ≡ false → is_lost one ≡ false
first_kept Fine pages h = refl
first_kept Worn pages h = refl
first_kept Lost pages h = ap is_lost (sym (lost_stays pages)) ∙ h

worn_kept : (pages : List Health) → is_lost (fold worse_of Worn pages) ≡ false →
    is_lost (fold worse_of Fine pages) ≡ false
worn_kept [] h = refl
worn_kept (Fine ∷ pages) h = worn_kept pages h
worn_kept (Worn ∷ pages) h = h
worn_kept (Lost ∷ pages) h = h

rest_kept : (one : Health) (pages : List Health) →
    is_lost (fold worse_of (worse_of Fine one) pages) ≡ false →
    is_lost (fold worse_of Fine pages) ≡ false
rest_kept Fine pages h = h
rest_kept Worn pages h = worn_kept pages h
rest_kept Lost pages h = absurd (false≢true (sym h ∙ ap is_lost (lost_stays pages)))

-- pages of which none is Lost, after others
worse_worst : (health : Health) (pages : List Health) → is_lost health ≡ false →
    is_lost (worst_of pages) ≡ false → is_lost (fold worse_of health pages) ≡ false
worse_worst health [] kept others = kept
worse_worst health (one ∷ pages) kept others =
    worse_worst (worse_of health one) pages
    (both_kept health one kept (first_kept one pages others)) (rest_kept one pages others)

-- two ranges of whole pages one after the other
health_joined :
    (page at a b : ℕ) (pages : List Health) →
    0 < page → at % page ≡ 0 → a % page ≡ 0 → b % page ≡ 0 →
    touched_pages page at (a + b) pages
    ≡ touched_pages page at a pages ++ touched_pages page (at + a) b pages
health_joined page at a b pages some first whole_a whole_b =
    touched_region page at (a + b) pages some first (sum_aligned page a b whole_a whole_b)
    ∙ ap (λ n. take n (drop (at / page) pages)) (div_moved page a b some whole_a)
    ∙ take-add (a / page) (b / page) (drop (at / page) pages)
    ∙ ap (λ xs. take (a / page) (drop (at / page) pages) ++ take (b / page) xs)
    (drop-drop (a / page) (at / page) pages
    ∙ ap (λ k. drop k pages) (sym (div_moved page at a some first)))
    ∙ ap (λ xs. xs ++ take (b / page) (drop ((at + a) / page) pages))
    (sym (touched_region page at a pages some first whole_a))
    ∙ ap (λ xs. touched_pages page at a pages ++ xs)
    (sym (touched_region page (at + a) b pages some
    (sum_aligned page at a first whole_a) whole_b))

pub blank_joined :
    (page : ℕ) (block : Image) (at a b : ℕ) →
    0 < page → at % page ≡ 0 → a % page ≡ 0 → b % page ≡ 0 →
    IsBlank page block at a → IsBlank page block (at + a) b → IsBlank page block at (a + b)
blank_joined page block at a b some first whole_a whole_b one two = record {
  clean =
      take-add a b (drop at block.bytes)
      ∙ ap (λ xs. xs ++ take b (drop a (drop at block.bytes))) one.clean
      ∙ ap (λ xs. replicate a 255 ++ take b xs) (drop-drop a at block.bytes)
      ∙ ap (λ xs. replicate a 255 ++ xs) two.clean
      ∙ replicate-append-replicate a b 255;
  alive =
      not_lost (health_of page block at (a + b))
      (ap (λ pages. is_lost (worst_of pages))
      (health_joined page at a b block.health some first whole_a whole_b)
      ∙ ap is_lost (fold-append worse_of Fine (touched_pages page at a block.health)
      (touched_pages page (at + a) b block.health))
      ∙ worse_worst (worst_of (touched_pages page at a block.health))
      (touched_pages page (at + a) b block.health)
      (kept_health (health_of page block at a) one.alive)
      (kept_health (health_of page block (at + a) b) two.alive));
}

-- a look from the end backwards came down to the first n pages: n and the blank pages at the end of
-- all are as many as all pages and the blank ones at the end of these
abbrev pub IsLookedAt : ℕ → Image → ℕ → Type 0
IsLookedAt page block n =
    n + suffix_len is_erased (pages_of page block)
    ≡ length (pages_of page block) + suffix_len is_erased (take n (pages_of page block))

pub written_from :
    (page : ℕ) (block : Image) (n : ℕ) →
    n + suffix_len is_erased (pages_of page block) ≡ length (pages_of page block) →
    n ≡ written_pages page block
unfolding written_pages
written_from page block n sum = omega arith

module _ (page size : ℕ) (block : Image) (paged : IsPaged page size block) where
  pub pages_counted : length (pages_of page block) ≡ size / page
  pages_counted =
      length-map-range_with_len (page_at page block) 0 (length block.bytes / page)
      ∙ ap (λ n. n / page) paged.bytes

  pub page_of : (k : ℕ) (d : Page) → k < size / page →
      get_or (pages_of page block) k d ≡ page_at page block k
  page_of k d inside =
      let same : length block.bytes / page ≡ size / page = ap (λ n. n / page) paged.bytes in
      get_or-map-range_with_len (page_at page block) 0 (length block.bytes / page) k k d
      (omega arith) (omega arith)

  -- the number of pages up to the last that isn't blank is fixed by what blank pages there are
  pub written_is :
      (n : ℕ) → n ≤ size / page →
      ((k : ℕ) → n ≤ k → k < size / page → is_erased (page_at page block k) ≡ true) →
      (0 < n → is_erased (page_at page block (n - 1)) ≡ false) →
      written_pages page block ≡ n
  unfolding written_pages
  written_is n inside blank last =
      let d : Page = page_at page block 0 in
      let count = pages_counted in
      let is =
      suffix_len_is is_erased (pages_of page block) n d (omega arith)
      (λ k from below. ap is_erased (page_of k d (omega arith)) ∙ blank k from (omega arith))
      (λ some. ap is_erased (page_of (n - 1) d (omega arith)) ∙ last some) in
      omega arith

  pub written_inside : written_pages page block ≤ size / page
  unfolding written_pages
  written_inside = omega (arith, pages_counted)

  -- all pages after it are blank
  pub blank_behind :
      (k : ℕ) → written_pages page block ≤ k → k < size / page →
      is_erased (page_at page block k) ≡ true
  unfolding written_pages
  blank_behind k from below =
      let d : Page = page_at page block 0 in
      let count = pages_counted in
      ap is_erased (sym (page_of k d below))
      ∙ passes_behind is_erased (pages_of page block) k d from (omega arith)

  -- a blank page holds 0xFF alone, and isn't Lost
  pub page_blank : (k : ℕ) → k < size / page → is_erased (page_at page block k) ≡ true →
      IsBlank page block (k * page) page
  page_blank k inside blank =
      let parts = and_parts (not (is_lost (page_at page block k).health))
      (list_all (λ (byte : ℕ). eqb byte 255) (page_at page block k).bytes) blank in
      let times = whole_times size page paged.whole in
      let product : (k + 1) * page ≤ size / page * page = mul-le-mul_right page (omega arith) in
      let next : (k + 1) * page ≡ k * page + page = add-mul k 1 page ∙ (omega arith) in
      let room = length-drop (k * page) block.bytes in
      let bytes = paged.bytes in
      let long : length (take page (drop (k * page) block.bytes)) ≡ page =
      length-take-le page (drop (k * page) block.bytes) (omega arith) in
      record {
        clean = blank_all (page_at page block k).bytes parts.1 ∙ ap (λ n. replicate n 255) long;
        alive = not_lost (page_at page block k).health
            (not-true (is_lost (page_at page block k).health) parts.0);
      }

  -- pages that are blank one by one are blank together
  pub pages_blank :
      (n m : ℕ) → n + m ≤ size / page →
      ((k : ℕ) → n ≤ k → k < n + m → is_erased (page_at page block k) ≡ true) →
      IsBlank page block (n * page) (m * page)
  pages_blank n zero inside blank =
      let none : 0 ≡ 0 * page = omega arith in
      subst (λ len. IsBlank page block (n * page) len) none
      (record { clean = refl; alive = λ lost. (let clash : Fine ≡ Lost = lost in absurd cc) })
  pages_blank n (suc m) inside blank =
      let some : 0 < page = omega (arith, paged.page_least) in
      let before = pages_blank n m (omega arith) (λ k from below. blank k from (omega arith)) in
      let last = page_blank (n + m) (omega arith) (blank (n + m) (omega arith) (omega arith)) in
      let place : (n + m) * page ≡ n * page + m * page = add-mul n m page in
      let len : m * page + page ≡ suc m * page = omega (arith, add-mul m 1 page) in
      subst (λ l. IsBlank page block (n * page) l) len
      (blank_joined page block (n * page) (m * page) page some (mul-mod_left n page)
      (mul-mod_left m page) (mod_self page) before
      (subst (λ at. IsBlank page block at page) place last))
