-- What reads of a block say of its pages and of its newest entry.
use Rattle.std.proofs.Common.{◌≡◌, ◌≢◌, ℕ, ◌+◌, ◌-◌, ◌*◌, ◌/◌, ◌%◌, ◌<◌, ◌≤◌, Bool, true, false, ◌&&◌, not, List, eqb, leb, length, take, drop, Option, Some, None, refl, sym, ap, ◌∙◌, subst, arith, inl, inr, cond, if◌then◌else◌, take_all}
use Rattle.std.specs.List.{list_all, suffix_len}
use Rattle.std.specs.Option.{option_and_then}
use Rattle.std.specs.Prelude.{IfSome}
use Rattle.std.proofs.Math.Nat.{mul-le-mul_right, mul-mod_left}
use Rattle.std.proofs.lemmas.Bool.{and_left, and_parts, and_right, cases_Bool, cases_lt, eqb-true, leb-true}
use Rattle.std.proofs.lemmas.List.Sums.{suffix_len-take_no, suffix_len-take_yes}
use Rattle.byteorder.specs.Endian.{little_number}
use Rattle.bb_flash.specs.declared.geometry.Geometry.{Geometry}
use Rattle.bb_flash.specs.declared.health.Health.{Health}
use Rattle.bb_flash.specs.declared.health.Health.TheVariants.{Fine, Worn, Lost}
use Rattle.bb_flash.specs.declared.region.Region.{Region}
use Rattle.bb_flash.specs.Image.{Image, health_of}
use Rattle.bb_flash.proofs.Geometries.{whole_times}
use Rattle.bb_bucket.specs.declared.block.Block.{Block}
use Rattle.bb_bucket.specs.Front.{IsPart, is_lost}
use Rattle.bb_bucket.specs.Kind.{part_of}
use Rattle.bb_bucket.proofs.Pages.{mod_moved, sum_aligned}
use Rattle.bb_circular.specs.declared.kept.Entry.{Entry}
use Rattle.bb_circular.specs.declared.last_page.LastPage.{LastPage}
use Rattle.bb_circular.specs.Circular.{IsEntryIn, IsKeptIn, readable}
use Rattle.bb_circular.specs.PutLaws.{same_page}
use Rattle.bb_circular.specs.EntryLaws.{one_at_least}
use Rattle.bb_circular.specs.Entries.{closed_entry, closes, last_words, closing_len_of}
use Rattle.bb_circular.specs.Looking.{IsEndOf, IsKnown, IsLastPage, kept_at}
use Rattle.bb_circular.specs.Pages.{Page, is_erased, page_at, pages_of, written_pages}
use Rattle.bb_circular.specs.PagesLaws.{IsLookedAt, IsPaged, page_of, pages_counted, written_from}

-- ---- reads of a region

-- a read of a region, by the page of the block
pub part_by :
    (geometry : Geometry) (page : ℕ) (region : Region) (image : Image) (at : ℕ) (out : List ℕ) (health : Health) →
    geometry.page ≡ page →
    IsPart geometry.page (part_of geometry.page region image) region.size at out health →
    IsPart page (part_of page region image) region.size at out health
part_by geometry page region image at out health same part =
    subst (λ p. IsPart p (part_of p region image) region.size at out health) same part

-- ---- from the end backwards

pub lost_or_kept : (health : Health) → is_lost health ≡ false → health ≢ Lost
lost_or_kept Fine kept = λ lost. cc
lost_or_kept Worn kept = λ lost. cc
lost_or_kept Lost kept = absurd cc

page_read_bytes :
    (page : ℕ) (old : Image) (size k : ℕ) (out : List ℕ) (health : Health) →
    IsPart page old size (k * page) out health → length out ≡ page → is_lost health ≡ false →
    out ≡ (page_at page old k).bytes
page_read_bytes page old size k out health part long kept =
    part.exact (lost_or_kept health kept) ∙ ap (λ n. take n (drop (k * page) old.bytes)) long

page_read_health :
    (page : ℕ) (old : Image) (size k : ℕ) (out : List ℕ) (health : Health) →
    IsPart page old size (k * page) out health → length out ≡ page → health ≡ (page_at page old k).health
page_read_health page old size k out health part long = part.health_is ∙ ap (health_of page old (k * page)) long

-- what was read of a page says whether it is blank
pub blank_read :
    (page : ℕ) (old : Image) (size k : ℕ) (out : List ℕ) (health : Health) →
    IsPart page old size (k * page) out health → length out ≡ page →
    is_erased (record { bytes = out; health = health }) ≡ is_erased (page_at page old k)
blank_read page old size k out health part long =
    let same = page_read_health page old size k out health part long in
    elim (cases_Bool (is_lost health)) [
      | inl lost ↦
          and_left (not (is_lost health)) (list_all (λ (byte : ℕ). eqb byte 255) out) (ap not lost)
          ∙ sym (and_left (not (is_lost (page_at page old k).health)) (list_all (λ (byte : ℕ). eqb byte 255) (page_at page old k).bytes) (ap (λ h. not (is_lost h)) (sym same) ∙ ap not lost))
      | inr kept ↦
          ap (λ bytes. not (is_lost health) && list_all (λ (byte : ℕ). eqb byte 255) bytes) (page_read_bytes page old size k out health part long kept)
          ∙ ap (λ h. not (is_lost h) && list_all (λ (byte : ℕ). eqb byte 255) (page_at page old k).bytes) same
    ]

module _ (page size : ℕ) (old : Image) (paged : IsPaged page size old) where
  pub looked_all : IsLookedAt page old (size / page)
  looked_all =
      let count = pages_counted page size old paged in
      let all = ap (suffix_len is_erased) (take_all (size / page) (pages_of page old) (omega arith)) in
      omega arith

  pub looked_more :
      (n : ℕ) → 0 < n → n ≤ size / page → IsLookedAt page old n →
      is_erased (page_at page old (n - 1)) ≡ true → IsLookedAt page old (n - 1)
  looked_more n some inside looked blank =
      let d : Page = page_at page old 0 in
      let count = pages_counted page size old paged in
      let last = ap is_erased (page_of page size old paged (n - 1) d (omega arith)) ∙ blank in
      let more = suffix_len-take_yes is_erased (pages_of page old) n d some (omega arith) last in
      omega arith

  pub looked_none :
      (n : ℕ) → 0 < n → n ≤ size / page → IsLookedAt page old n →
      is_erased (page_at page old (n - 1)) ≡ false → n ≡ written_pages page old
  looked_none n some inside looked written =
      let d : Page = page_at page old 0 in
      let count = pages_counted page size old paged in
      let last = ap is_erased (page_of page size old paged (n - 1) d (omega arith)) ∙ written in
      let none = suffix_len-take_no is_erased (pages_of page old) n d some (omega arith) last in
      written_from page old n (omega arith)

  pub looked_through : IsLookedAt page old 0 → 0 ≡ written_pages page old
  looked_through looked = written_from page old 0 (omega arith)

  -- what a look finds, once a page isn't blank
  pub last_page_is :
      (n : ℕ) (out : List ℕ) (health : Health) →
      0 < n → n ≤ size / page → IsLookedAt page old n → length out ≡ page →
      IsPart page old size ((n - 1) * page) out health →
      is_erased (record { bytes = out; health = health }) ≡ false →
      IsLastPage page old out (record { pages = n; health = health })
  last_page_is n out health some inside looked long part written = record {
    pages = looked_none n some inside looked (sym (blank_read page old size (n - 1) out health part long) ∙ written);
    health = λ more. page_read_health page old size (n - 1) out health part long;
    bytes = λ more kept. part.exact kept ∙ ap (λ k. take k (drop ((n - 1) * page) old.bytes)) long;
  }

  -- and where all are
  pub no_page_is : (out : List ℕ) → IsLookedAt page old 0 → IsLastPage page old out (record { pages = 0; health = Fine })
  no_page_is out looked = record {
    pages = looked_through looked;
    health = λ more. absurd (omega arith);
    bytes = λ more kept. absurd (omega arith);
  }

-- ---- the entry that the last page ends

closed_lost : (page pages : ℕ) (last : Page) → is_lost last.health ≡ true → closed_entry page pages last ≡ None
closed_lost page pages last lost =
    ap (λ b. cond b (Some (record { at = pages * page - closing_len_of (last_words page last); len = closing_len_of (last_words page last) })) None)
    (and_right (leb 1 pages) _ (and_left (not (is_lost last.health)) _ (ap not lost)))

closed_first : (page : ℕ) (one two : Page) (pages : ℕ) → pages ≡ 0 → closed_entry page pages one ≡ closed_entry page pages two
closed_first page one two pages none =
    let no : (last : Page) → closed_entry page pages last ≡ None = λ last.
    ap (λ n. cond (leb 1 n && (not (is_lost last.health) && closes page (n * page) (last_words page last))) (Some (record { at = n * page - closing_len_of (last_words page last); len = closing_len_of (last_words page last) })) None) none in
    no one ∙ sym (no two)

closed_read :
    (page : ℕ) (there : Page) (out : List ℕ) (pages : ℕ) (health : Health) →
    health ≡ there.health → (health ≢ Lost → out ≡ there.bytes) →
    closed_entry page pages (record { bytes = out; health = health }) ≡ closed_entry page pages there
closed_read page there out pages health same exact =
    elim (cases_Bool (is_lost health)) [
      | inl lost ↦
          closed_lost page pages (record { bytes = out; health = health }) lost
          ∙ sym (closed_lost page pages there (ap is_lost (sym same) ∙ lost))
      | inr kept ↦ ap (closed_entry page pages) (same_page (record { bytes = out; health = health }) there (exact (lost_or_kept health kept)) same)
    ]

-- what was read of a page says which entry it ends
pub end_read :
    (page : ℕ) (old : Image) (size pages : ℕ) (out : List ℕ) (health : Health) (entry : Option Entry) →
    IsPart page old size ((pages - 1) * page) out health → length out ≡ page →
    entry ≡ closed_entry page pages (record { bytes = out; health = health }) →
    IsEndOf page pages old out entry
end_read page old size pages out health entry part long is =
    let there : Page = page_at page old (pages - 1) in
    let same = page_read_health page old size (pages - 1) out health part long in
    record {
      entry_is =
          is
          ∙ closed_read page there out pages health same
          (λ kept. part.exact kept ∙ ap (λ n. take n (drop ((pages - 1) * page) old.bytes)) long);
      bytes =
          elim (cases_Bool (is_lost health)) [
            | inl lost ↦
                subst (λ (e : Option Entry). IfSome e (λ _. out ≡ there.bytes))
                (sym (is ∙ closed_lost page pages (record { bytes = out; health = health }) lost)) tt
            | inr kept ↦ if_some entry (page_read_bytes page old size (pages - 1) out health part long kept)
          ];
    }
  where
    if_some : {P : Type 0} (e : Option Entry) → P → IfSome e (λ _. P)
    if_some None p = tt
    if_some (Some x) p = p

pub closed_same :
    (page : ℕ) (old : Image) (out : List ℕ) (last : LastPage) →
    IsLastPage page old out last →
    closed_entry page last.pages (record { bytes = out; health = last.health })
    ≡ closed_entry page (written_pages page old) (page_at page old (written_pages page old - 1))
closed_same page old out last is =
    let there : Page = page_at page old (last.pages - 1) in
    let here : closed_entry page last.pages (record { bytes = out; health = last.health }) ≡ closed_entry page last.pages there =
    elim (cases_lt 0 last.pages) [
      | inl some ↦ closed_read page there out last.pages last.health (is.health some) (is.bytes some)
      | inr none ↦ closed_first page (record { bytes = out; health = last.health }) there last.pages (omega arith)
    ] in
    here ∙ ap (λ n. closed_entry page n (page_at page old (n - 1))) is.pages

-- the closing words give an entry that lies in its block
pub entry_in :
    (block : Block) (pages : ℕ) (words : List ℕ) →
    16 ≤ block.page → block.region.size % block.page ≡ 0 → pages ≤ block.region.size / block.page →
    closes block.page (pages * block.page) words ≡ true →
    IsEntryIn block (record { at = pages * block.page - closing_len_of words; len = closing_len_of words })
entry_in block pages words least whole inside closing =
    let page : ℕ = block.page in
    let len : ℕ = closing_len_of words in
    let end : ℕ = pages * page in
    let magic = and_parts (eqb (little_number 4 words) 0x14fa2d02) (eqb (len % page) 0 && (leb 1 len && leb len end)) closing in
    let multiple = and_parts (eqb (len % page) 0) (leb 1 len && leb len end) magic.1 in
    let bounds = and_parts (leb 1 len) (leb len end) multiple.1 in
    let is_whole : len % page ≡ 0 = eqb-true (len % page) 0 multiple.0 in
    let some : 1 ≤ len = leb-true 1 len bounds.0 in
    let fits : len ≤ end = leb-true len end bounds.1 in
    let times = whole_times len page is_whole in
    let page_fits = one_at_least (len / page) page (omega arith) in
    let all = whole_times block.region.size page whole in
    let product : pages * page ≤ block.region.size / page * page = mul-le-mul_right page inside in
    let sum : len + (end - len) ≡ end = omega arith in
    record {
      some = omega arith;
      inside = omega arith;
      aligned = sym (mod_moved page len (end - len) is_whole) ∙ ap (λ n. n % page) sum ∙ mul-mod_left pages page;
      pages = is_whole;
    }

-- an entry that a page closes ends with it
ended_at : (yes : Bool) (end len : ℕ) → (yes ≡ true → len ≤ end) →
    IfSome (if yes then Some (record { at = end - len; len = len }) else None)
    (λ (e : Entry). e.at + e.len ≡ end)
ended_at true end len fits = let inside = fits refl in omega arith
ended_at false end len fits = tt

pub closed_ends :
    (page pages : ℕ) (last : Page) (entry : Option Entry) → entry ≡ closed_entry page pages last →
    IfSome entry (λ e. e.at + e.len ≡ pages * page)
closed_ends page pages last entry is =
    let words : List ℕ = last_words page last in
    let len : ℕ = closing_len_of words in
    let end : ℕ = pages * page in
    let alive : Bool = not (is_lost last.health) in
    subst (λ (o : Option Entry). IfSome o (λ e. e.at + e.len ≡ pages * page)) (sym is)
    (ended_at (leb 1 pages && (alive && closes page end words)) end len
    (λ yes.
    let sound = and_parts (leb 1 pages) (alive && closes page end words) yes in
    let closing = and_parts alive (closes page end words) sound.1 in
    let magic = and_parts (eqb (little_number 4 words) 0x14fa2d02) (eqb (len % page) 0 && (leb 1 len && leb len end)) closing.1 in
    let multiple = and_parts (eqb (len % page) 0) (leb 1 len && leb len end) magic.1 in
    let bounds = and_parts (leb 1 len) (leb len end) multiple.1 in
    leb-true len end bounds.1))

-- what is known once the last page was looked at
pub known_of :
    (page : ℕ) (old : Image) (out : List ℕ) (last : LastPage) (newest : Option Entry) →
    IsLastPage page old out last →
    newest ≡ closed_entry page last.pages (record { bytes = out; health = last.health }) →
    IsKnown page old (record { next = last.pages * page; newest = newest })
known_of page old out last newest is closed = record {
  next = ap (λ n. n * page) is.pages;
  newest = ap (option_and_then (readable page old)) (closed ∙ closed_same page old out last is);
}

pub kept_inside :
    (block : Block) (at len : ℕ) →
    at + len ≤ block.region.size → at % block.page ≡ 0 → len % block.page ≡ 0 → block.page ≤ len →
    IsKeptIn block (kept_at at len)
kept_inside block at len inside aligned whole least = record {
  inside = inside;
  aligned = sum_aligned block.page at len aligned whole;
  newest = record { some = least; inside = inside; aligned = aligned; pages = whole };
}

pub looked_inside :
    (block : Block) (pages : ℕ) (newest : Option Entry) →
    block.region.size % block.page ≡ 0 → pages ≤ block.region.size / block.page →
    IfSome newest (IsEntryIn block) →
    IsKeptIn block (record { next = pages * block.page; newest = newest })
looked_inside block pages newest whole inside entry =
    let all = whole_times block.region.size block.page whole in
    let product : pages * block.page ≤ block.region.size / block.page * block.page = mul-le-mul_right block.page inside in
    record { inside = omega arith; aligned = mul-mod_left pages block.page; newest = entry }
