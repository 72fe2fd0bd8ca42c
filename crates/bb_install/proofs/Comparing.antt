-- What reads say of the bytes that stand at a place of a device.
use Rattle.std.proofs.Common.{◌≡◌, ◌≢◌, ℕ, zero, suc, ◌+◌, ◌-◌, ◌/◌, ◌%◌, ◌<◌, ◌≤◌, ◌∙◌, ◌||◌, Bool, true, false, List, [], ◌∷◌, ◌++◌, length, take, drop, fold, slice_get, Option, Some, None, IfSome, ap, sym, subst, refl, arith, inl, inr, take-add, length-append}
use Rattle.std.proofs.Math.Nat.{add-mul, lt_of_mul-lt-mul_right}
use Rattle.std.proofs.lemmas.Grind.{div_ceil_times}
use Rattle.std.proofs.lemmas.List.{append-nil, drop-drop, length-drop, length-take, length-take-le, take-take}
use Rattle.std.proofs.lemmas.List.Folds.{list_any-append}
use Rattle.std.specs.Int.{div_ceil}
use Rattle.std.specs.List.{list_any}
use Rattle.bb_flash.specs.declared.health.Health.{Health}
use Rattle.bb_flash.specs.declared.health.Health.TheVariants.{Fine, Worn, Lost}
use Rattle.bb_flash.specs.declared.region.Region.{Region}
use Rattle.bb_flash.specs.Device.{IsReading}
use Rattle.bb_flash.specs.Image.{Image, health_of, page_count, touched_pages, worse_of, worst_of}
use Rattle.bb_flash.proofs.Geometries.{whole_times}
use Rattle.bb_flash.proofs.Readings.{exact_reading}
use Rattle.bb_flash.proofs.Tearing.{touched_pages-some}
use Rattle.bb_bucket.specs.Front.{is_lost}
use Rattle.bb_bucket.proofs.Pages.{div_moved, page_count_whole}
use Rattle.bb_install.specs.Compared.{IsDifference, IsUnequal}
use Rattle.bb_install.specs.Holding.{IsComparison, HasBytesAt}

-- ---- whether a page is Lost

is_lost-so : (health : Health) → is_lost health ≡ false → health ≢ Lost
is_lost-so Fine e lost = absurd cc
is_lost-so Worn e lost = absurd cc
is_lost-so Lost e lost = absurd cc

is_lost-not : (health : Health) → health ≢ Lost → is_lost health ≡ false
is_lost-not Fine alive = refl
is_lost-not Worn alive = refl
is_lost-not Lost alive = absurd (alive refl)

worse_lost : (one two : Health) → is_lost (worse_of one two) ≡ (is_lost one || is_lost two)
worse_lost Fine two = refl
worse_lost Worn Fine = refl
worse_lost Worn Worn = refl
worse_lost Worn Lost = refl
worse_lost Lost two = refl

or_false : (b : Bool) → (b || false) ≡ b
or_false true = refl
or_false false = refl

or_assoc : (a b c : Bool) → ((a || b) || c) ≡ (a || (b || c))
or_assoc true b c = refl
or_assoc false b c = refl

fold_lost : (pages : List Health) (first : Health) → is_lost (fold worse_of first pages) ≡ (is_lost first || list_any is_lost pages)
fold_lost [] first = sym (or_false (is_lost first))
fold_lost (page ∷ pages) first =
    fold_lost pages (worse_of first page) ∙ ap (λ b. b || list_any is_lost pages) (worse_lost first page)
    ∙ or_assoc (is_lost first) (is_lost page) (list_any is_lost pages)

worst_lost : (pages : List Health) → is_lost (worst_of pages) ≡ list_any is_lost pages
worst_lost pages = fold_lost pages Fine

front_false : (a b : Bool) → (a || b) ≡ false → a ≡ false
front_false true b e = absurd cc
front_false false b e = refl

both_false : (a b : Bool) → a ≡ false → b ≡ false → (a || b) ≡ false
both_false true b e f = absurd cc
both_false false b e f = f

alive_front : (front behind : List Health) → worst_of (front ++ behind) ≢ Lost → worst_of front ≢ Lost
alive_front front behind alive =
    let none : list_any is_lost (front ++ behind) ≡ false = sym (worst_lost (front ++ behind)) ∙ is_lost-not (worst_of (front ++ behind)) alive in
    is_lost-so (worst_of front) (worst_lost front ∙ front_false (list_any is_lost front) (list_any is_lost behind) (sym (list_any-append is_lost front behind) ∙ none))

alive_both : (front behind : List Health) → worst_of front ≢ Lost → worst_of behind ≢ Lost → worst_of (front ++ behind) ≢ Lost
alive_both front behind first second =
    let a : list_any is_lost front ≡ false = sym (worst_lost front) ∙ is_lost-not (worst_of front) first in
    let b : list_any is_lost behind ≡ false = sym (worst_lost behind) ∙ is_lost-not (worst_of behind) second in
    is_lost-so (worst_of (front ++ behind)) (worst_lost (front ++ behind) ∙ list_any-append is_lost front behind ∙ both_false (list_any is_lost front) (list_any is_lost behind) a b)

-- ---- the pages of ranges

ceil_order : (a b page : ℕ) → 0 < page → a ≤ b → div_ceil a page ≤ div_ceil b page
ceil_order a b page some order =
    let first = div_ceil_times a page some in
    let last = div_ceil_times b page some in
    let next = add-mul (div_ceil b page) 1 page in
    let few : div_ceil a page < div_ceil b page + 1 = lt_of_mul-lt-mul_right page (omega arith) in
    omega arith

floor_ceil : (a n page : ℕ) → 0 < page → a / page ≤ div_ceil (a + n) page
floor_ceil a n page some = (let order = ceil_order a (a + n) page some (omega arith) in omega arith)

touched_front : (page at k n : ℕ) (pages : List Health) → 0 < page → k ≤ n → (behind : List Health) × (touched_pages page at n pages ≡ touched_pages page at k pages ++ behind)
touched_front page at zero n pages some order = (touched_pages page at n pages, refl)
touched_front page at (suc k) zero pages some order = absurd (omega arith)
touched_front page at (suc k) (suc n) pages some order =
    let a : ℕ = page_count page at (suc k) in
    let b : ℕ = page_count page at (suc n) in
    let rest = drop (at / page) pages in
    let ceil = ceil_order (at + suc k) (at + suc n) page some (omega arith) in
    let sum : b ≡ a + (b - a) = omega arith in
    (take (b - a) (drop a rest), touched_pages-some page at (suc n) pages (omega arith) ∙ ap (λ c. take c rest) sum ∙ take-add a (b - a) rest ∙ ap (λ front. front ++ take (b - a) (drop a rest)) (sym (touched_pages-some page at (suc k) pages (omega arith))))

-- a range in front of one without a Lost page has none
pub alive_fewer : (page at k n : ℕ) (content : Image) → 0 < page → k ≤ n → health_of page content at n ≢ Lost → health_of page content at k ≢ Lost
alive_fewer page at k n content some order alive =
    let split = touched_front page at k n content.health some order in
    alive_front (touched_pages page at k content.health) split.0 (λ lost. alive (ap worst_of split.1 ∙ lost))

touched_joined : (page at m n : ℕ) (pages : List Health) → 0 < page → at % page ≡ 0 → m % page ≡ 0 → touched_pages page at (m + n) pages ≡ touched_pages page at m pages ++ touched_pages page (at + m) n pages
touched_joined page at zero n pages some first whole = (let start : at + 0 ≡ at = omega arith in let sum : 0 + n ≡ n = omega arith in ap (λ k. touched_pages page at k pages) sum ∙ ap (λ a. touched_pages page a n pages) (sym start))
touched_joined page at (suc m) zero pages some first whole = (let sum : suc m + 0 ≡ suc m = omega arith in ap (λ k. touched_pages page at k pages) sum ∙ sym (append-nil (touched_pages page at (suc m) pages)))
touched_joined page at (suc m) (suc n) pages some first whole =
    let a : ℕ = page_count page at (suc m) in
    let b : ℕ = page_count page (at + suc m) (suc n) in
    let rest = drop (at / page) pages in
    let sum : at + (suc m + suc n) ≡ at + suc m + suc n = omega arith in
    let end = ap (λ k. div_ceil k page) sum in
    let moved = div_moved page at (suc m) some first in
    let counted : a ≡ suc m / page = page_count_whole page at (suc m) some first whole in
    let floor : (at + suc m) / page ≤ div_ceil (at + suc m + suc n) page = floor_ceil (at + suc m) (suc n) page some in
    let all : page_count page at (suc m + suc n) ≡ a + b = omega arith in
    let place : at / page + a ≡ (at + suc m) / page = omega arith in
    touched_pages-some page at (suc m + suc n) pages (omega arith)
    ∙ ap (λ c. take c rest) all ∙ take-add a b rest
    ∙ ap (λ xs. take a rest ++ take b xs) (drop-drop a (at / page) pages)
    ∙ ap (λ k. take a rest ++ take b (drop k pages)) place
    ∙ ap (λ xs. xs ++ take b (drop ((at + suc m) / page) pages)) (sym (touched_pages-some page at (suc m) pages (omega arith)))
    ∙ ap (λ xs. touched_pages page at (suc m) pages ++ xs) (sym (touched_pages-some page (at + suc m) (suc n) pages (omega arith)))

-- bytes after others that stand there in whole pages
pub stands_joined : (page at : ℕ) (content : Image) (xs ys : List ℕ) → 0 < page → at % page ≡ 0 → length xs % page ≡ 0 → HasBytesAt page content at xs → HasBytesAt page content (at + length xs) ys → HasBytesAt page content at (xs ++ ys)
stands_joined page at content xs ys some first whole early late =
    let size = length-append xs ys in
    record {
      bytes_are =
          ap (λ n. take n (drop at content.bytes)) size
          ∙ take-add (length xs) (length ys) (drop at content.bytes)
          ∙ ap (λ zs. zs ++ take (length ys) (drop (length xs) (drop at content.bytes))) early.bytes_are
          ∙ ap (λ zs. xs ++ take (length ys) zs) (drop-drop (length xs) at content.bytes)
          ∙ ap (λ zs. xs ++ zs) late.bytes_are;
      alive = λ lost.
          alive_both (touched_pages page at (length xs) content.health) (touched_pages page (at + length xs) (length ys) content.health) early.alive late.alive
          (sym (ap (λ n. health_of page content at n) size ∙ ap worst_of (touched_joined page at (length xs) (length ys) content.health some first whole)) ∙ lost);
    }

pub stands_none : (page at : ℕ) (content : Image) → HasBytesAt page content at []
stands_none page at content = record { bytes_are = refl; alive = λ lost. absurd cc }

-- ---- what a read says

get_part : {X : Type 0} (xs : List X) (at n k : ℕ) → k < n → slice_get (take n (drop at xs)) k ≡ slice_get xs (at + k)
get_part xs zero zero k inside = absurd (omega arith)
get_part [] zero (suc n) k inside = refl
get_part (x ∷ xs) zero (suc n) zero inside = refl
get_part (x ∷ xs) zero (suc n) (suc k) inside = (let sum : 0 + suc k ≡ suc (0 + k) = omega arith in get_part xs zero n k (omega arith) ∙ ap (slice_get (x ∷ xs)) (sym sum))
get_part [] (suc at) (suc n) k inside = (let sum : suc at + k ≡ suc (at + k) = omega arith in refl)
get_part [] (suc at) zero k inside = absurd (omega arith)
get_part (x ∷ xs) (suc at) n k inside = (let sum : suc at + k ≡ suc (at + k) = omega arith in get_part xs at n k inside ∙ ap (slice_get (x ∷ xs)) (sym sum))

-- a read without a Lost page, compared with bytes
pub read_differs : (page at : ℕ) (content : Image) (bytes out : List ℕ) (health : Health) (found : Option ℕ) → 0 < page → length out ≡ length bytes → IsReading page content at out health → health ≢ Lost → IsUnequal bytes out found → IsDifference page content at bytes found
read_differs page at content bytes out health None some size reading alive same =
    let exact = exact_reading page at content out health reading alive in
    record {
      bytes_are = ap (λ n. take n (drop at content.bytes)) (sym size) ∙ sym exact ∙ same;
      alive = λ lost. alive (reading.worst ∙ ap (λ n. health_of page content at n) size ∙ lost);
    }
read_differs page at content bytes out health (Some place) some size reading alive unequal =
    let exact = exact_reading page at content out health reading alive in
    let inside : place < length out = omega (arith, unequal.inside) in
    let cut : length (take place bytes) ≡ place = length-take-le place bytes (omega (arith, unequal.inside)) in
    let here : slice_get out place ≡ slice_get content.bytes (at + place) = ap (λ xs. slice_get xs place) exact ∙ get_part content.bytes at (length out) place inside in
    record {
      inside = unequal.inside;
      differs = inl (λ equal. unequal.differs (here ∙ equal));
      before = record {
        bytes_are =
            ap (λ n. take n (drop at content.bytes)) cut
            ∙ sym (take-take place (length out) (drop at content.bytes) (omega arith))
            ∙ ap (take place) (sym exact)
            ∙ unequal.before;
        alive = λ lost.
            alive_fewer page at place (length out) content some (omega arith) (λ all. alive (reading.worst ∙ all))
            (ap (λ n. health_of page content at n) (sym cut) ∙ lost);
      };
    }

one_page : (page at n : ℕ) → 0 < page → at % page ≡ 0 → 0 < n → n ≤ page → page_count page at n ≡ page_count page at 1
one_page page at n some first more few =
    let a = div_ceil_times (at + n) page some in
    let b = div_ceil_times (at + 1) page some in
    let times = whole_times at page first in
    let next = add-mul (at / page) 1 page in
    let twice = add-mul (at / page) 2 page in
    let least : at / page < div_ceil (at + 1) page = lt_of_mul-lt-mul_right page (omega arith) in
    let most : div_ceil (at + n) page < at / page + 2 = lt_of_mul-lt-mul_right page (omega arith) in
    let order = ceil_order (at + 1) (at + n) page some (omega arith) in
    omega arith

-- a Lost page of which bytes were read differs from its first byte on
pub lost_differs : (page at : ℕ) (content : Image) (bytes out : List ℕ) → 0 < page → at % page ≡ 0 → 0 < length bytes → length bytes ≤ page → length out ≡ length bytes → IsReading page content at out Lost → IsDifference page content at bytes (Some 0)
lost_differs page at content bytes out some first more few size reading =
    let n : ℕ = length bytes in
    let start : at + 0 ≡ at = omega arith in
    let same : touched_pages page at 1 content.health ≡ touched_pages page at n content.health =
    touched_pages-some page at 1 content.health (omega arith)
    ∙ ap (λ c. take c (drop (at / page) content.health)) (sym (one_page page at n some first more few))
    ∙ sym (touched_pages-some page at n content.health more) in
    record {
      inside = more;
      differs = inr (ap (λ a. health_of page content a 1) start ∙ ap worst_of same ∙ ap (λ k. health_of page content at k) (sym size) ∙ sym reading.worst);
      before = stands_none page at content;
    }

-- ---- pieces

-- what a piece says after others that stand there
pub piece_stands : (page at done len : ℕ) (content : Image) (bytes : List ℕ) → 0 < page → at % page ≡ 0 → done % page ≡ 0 → done ≤ length bytes → HasBytesAt page content at (take done bytes) → IsDifference page content (at + done) (take len (drop done bytes)) None → HasBytesAt page content at (take (done + len) bytes)
piece_stands page at done len content bytes some first whole fits early late =
    let size : length (take done bytes) ≡ done = length-take-le done bytes fits in
    subst (λ (xs : List ℕ). HasBytesAt page content at xs) (sym (take-add done len bytes))
    (stands_joined page at content (take done bytes) (take len (drop done bytes)) some first (ap (λ n. n % page) size ∙ whole) early
    (subst (λ (n : ℕ). HasBytesAt page content (at + n) (take len (drop done bytes))) (sym size) late))

pub piece_differs : (page at done len offset : ℕ) (content : Image) (bytes : List ℕ) → 0 < page → at % page ≡ 0 → done % page ≡ 0 → done ≤ length bytes → HasBytesAt page content at (take done bytes) → IsDifference page content (at + done) (take len (drop done bytes)) (Some offset) → IsDifference page content at bytes (Some (done + offset))
piece_differs page at done len offset content bytes some first whole fits early late =
    let part : List ℕ = take len (drop done bytes) in
    let short = length-take len (drop done bytes) in
    let rest = length-drop done bytes in
    let inside : offset < length part = late.inside in
    let sum : at + done + offset ≡ at + (done + offset) = omega arith in
    let got : slice_get part offset ≡ slice_get bytes (done + offset) = get_part bytes done len offset (omega arith) in
    let joined : take (done + offset) bytes ≡ take done bytes ++ take offset part =
    take-add done offset bytes ∙ ap (λ xs. take done bytes ++ xs) (sym (take-take offset len (drop done bytes) (omega arith))) in
    let size : length (take done bytes) ≡ done = length-take-le done bytes fits in
    record {
      inside = omega arith;
      differs = elim late.differs [
        | inl other ↦ inl (λ equal. other (ap (slice_get content.bytes) sum ∙ equal ∙ sym got))
        | inr lost ↦ inr (ap (λ a. health_of page content a 1) (sym sum) ∙ lost)
      ];
      before =
          subst (λ (xs : List ℕ). HasBytesAt page content at xs) (sym joined)
          (stands_joined page at content (take done bytes) (take offset part) some first (ap (λ n. n % page) size ∙ whole) early
          (subst (λ (n : ℕ). HasBytesAt page content (at + n) (take offset part)) (sym size) late.before));
    }

-- what is found of an image at the start of its slot
pub compared : (page : ℕ) (slot : Region) (image : List ℕ) (content : Image) (found : Option ℕ) → length image ≤ slot.size → IsDifference page content slot.at image found → IsComparison page slot image content found
compared page slot image content None fits stands = record { fits = fits; stands = stands }
compared page slot image content (Some offset) fits difference = record {
  inside = difference.inside;
  differs = difference.differs;
  before = record { fits = omega (arith, length-take offset image); stands = difference.before };
}

-- ---- how far a difference lies

pub unequal_inside : (bytes read : List ℕ) (found : Option ℕ) → IsUnequal bytes read found → IfSome found (λ place. place < length bytes)
unequal_inside bytes read None same = tt
unequal_inside bytes read (Some place) unequal = unequal.inside

pub some_is : (P : ℕ → Type 0) (found : Option ℕ) (x : ℕ) → found ≡ Some x → IfSome found P → P x
some_is P None x e holds = absurd cc
some_is P (Some y) x e holds = (let same : y ≡ x = cc in subst P same holds)

pub inside_more : (bytes : List ℕ) (done end offset : ℕ) → offset < length (take (end - done) (drop done bytes)) → done + offset < length bytes
inside_more bytes done end offset inside = omega (arith, inside, length-take (end - done) (drop done bytes), length-drop done bytes)
